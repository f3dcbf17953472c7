-- `gates::forms::Form::other` meets its contract.
use mathlib.Core.Path.{ap, sym}
use Rattle.gates.specs.Forms.{other_form}
use Rattle.gates.proofs.forms.Form.other.Goals as goal

pub returns-in-Old : goal.returns-in-Old
unfolding other_form
returns-in-Old c = sym (ap other_form c.in-Old.is)

pub returns-in-New : goal.returns-in-New
unfolding other_form
returns-in-New c = sym (ap other_form c.in-New.is)
