-- `gates::forms::Form::layout` meets its contract.
use mathlib.Core.Path.{ap, sym}
use Rattle.gates.specs.Forms.{layout_of}
use Rattle.gates.proofs.forms.Form.layout.Goals as goal

pub returns-in-Old : goal.returns-in-Old
unfolding layout_of
returns-in-Old c = sym (ap layout_of c.in-Old.is)

pub returns-in-New : goal.returns-in-New
unfolding layout_of
returns-in-New c = sym (ap layout_of c.in-New.is)
