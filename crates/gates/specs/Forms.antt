-- The two forms of a gate sub-packet. The old one (document 02, T-07) has its distances in tens of metres, 9 bits wide; all else in a gate is the same.
use Rattle.profiles.specs.Profiles.{Profile}
use Rattle.gates.specs.Gates.{distance_width, most_gates, gate_profile_with}
use Rattle.gates.specs.{declared.forms.Form.Form, declared.forms.Form.TheVariants.Old, declared.forms.Form.TheVariants.New}
use Rattle.gates.specs.declared.forms.Layout.{Layout}

-- what they differ in: the width of the distance, the metres that one of it means, the farthest distance in metres, and the most gates
unfoldable pub layout_of : Form → Layout
layout_of Old = record { distance = 9; unit = 10; farthest = 5110; most = 31 }
layout_of New = record { distance = distance_width; unit = 1; farthest = 32767; most = most_gates }

-- the other of the two
unfoldable pub other_form : Form → Form
other_form Old = New
other_form New = Old

-- gates of a form as a profile
abbrev pub profile_in : Form → Profile
profile_in form = gate_profile_with (layout_of form).distance
