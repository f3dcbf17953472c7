-- The kinds of record in code: the number of each in the table.
use Rattle.std.specs.Prelude.{ℕ}
use Rattle.records.specs.declared.kind.Kind.{Kind}
use Rattle.records.specs.declared.kind.Kind.TheVariants.{Request, Release, Flags, Position, Authority, Danger, Sos, Clear, StepBack}

-- the number of a kind
abbrev pub number_of : Kind → ℕ
number_of Request = 1
number_of Release = 2
number_of Flags = 3
number_of Position = 4
number_of Authority = 5
number_of Danger = 6
number_of Sos = 7
number_of Clear = 8
number_of StepBack = 9
