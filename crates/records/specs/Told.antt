-- What running a record tells: the numbers of its line, and how many bytes it used.
use Rattle.std.specs.Prelude.{ℕ, ◌+◌}
use Rattle.rules.specs.{Refusals.bad_record, Ruling.refused_with, declared.ruling.Answer.Answer}
use Rattle.records.specs.declared.told.Ran.{Ran}

-- a record of this kind that is run, with its answer, and uses so many bytes
abbrev pub run_with : ℕ → ℕ → ℕ → Answer → Ran
run_with before kind used a =
    record { number = before + 1; kind = kind; answer = a.answer; first = a.first; second = a.second; third = a.third; used = used }

-- a record that is not run: kind 0, and no byte used
abbrev pub not_run : ℕ → Ran
not_run before = run_with before 0 0 (refused_with bad_record)
