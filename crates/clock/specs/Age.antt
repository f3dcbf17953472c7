-- The age of a frame and the conditions that hang on it (document 01, "Frame age"; document 02, T-02).
use Rattle.std.specs.Prelude.{Bool, cond, ◌||◌, ℕ, ◌+◌, ◌-◌, ◌/◌, ◌%◌, leb, ltb}
use Rattle.numbers.specs.Numbers.{one_if}
use Rattle.clock.specs.declared.FrameAge.{FrameAge}

abbrev pub last_frame : ℕ  -- the frames of a day are numbered from 1 to this one, and 1 comes again after it
last_frame = 86_400

-- ground of refusal: no frame has this number
unfoldable pub not_a_frame : ℕ → Bool
not_a_frame n = ltb n 1 || ltb last_frame n

-- the number of the frame that comes k frames later
unfoldable pub later : ℕ → ℕ → ℕ
later k n = (n - 1 + k) % last_frame + 1

-- how many frames the station's number is ahead of the onboard one, round the day
unfoldable pub difference : ℕ → ℕ → ℕ
difference station onboard = (station + last_frame - onboard) % last_frame

-- the age is half the difference, rounded down
unfoldable pub age_of : ℕ → ℕ → ℕ
age_of station onboard = difference station onboard / 2

-- the frame part of condition 24: an age of 0 or 1
abbrev pub condition24 : ℕ → Bool
condition24 age = leb age 1

-- condition 26: an age over 14
abbrev pub condition26 : ℕ → Bool
condition26 age = ltb 14 age

-- condition 27: an age under 5
abbrev pub condition27 : ℕ → Bool
condition27 age = ltb age 5

-- the answer for an age, each condition as 1 or 0
unfoldable pub aged : ℕ → FrameAge
aged age =
    record {
      answer = 0;
      age = age;
      condition24 = one_if (condition24 age);
      condition26 = one_if (condition26 age);
      condition27 = one_if (condition27 age);
    }

abbrev pub out_of_range : ℕ  -- the answer's number where it is refused
out_of_range = 17

-- a refusal has zeros for its numbers
abbrev pub refused : FrameAge
refused = record { answer = out_of_range; age = 0; condition24 = 0; condition26 = 0; condition27 = 0 }

-- either number is no frame's
unfoldable pub refuses : ℕ → ℕ → Bool
refuses station onboard = not_a_frame station || not_a_frame onboard

-- the frame age, for any two numbers
unfoldable pub frame_age : ℕ → ℕ → FrameAge
frame_age station onboard = cond (refuses station onboard) refused (aged (age_of station onboard))
