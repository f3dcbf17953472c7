-- What `ok_or` says of its Option.
use Rattle.std.specs.Prelude.{Option, None, Some, ok_or}
use Rattle.std.specs.declared.result.Result.TheVariants.{Ok, Err}
use mathlib.Core.Path.{◌≡◌, refl, ap}

pub ok_or_err : {T E : Type 0} (o : Option T) (d e : E) → ok_or o d ≡ Err e → (o ≡ None) × (d ≡ e)
ok_or_err None d e q = (refl, cc)
ok_or_err (Some x) d e q = cc

pub ok_or_ok : {T E : Type 0} (o : Option T) (d : E) (x : T) → ok_or o d ≡ Ok x → o ≡ Some x
ok_or_ok None d x q = cc
ok_or_ok (Some y) d x q = let z : y ≡ x = cc in ap Some z
