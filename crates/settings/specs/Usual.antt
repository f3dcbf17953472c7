-- The settings that every session has.
use Rattle.rules.specs.declared.settings.Settings.{Settings}

-- M2 limits L2 to 300 m behind L1's rear, and a slot carries 54 bytes
abbrev pub usual : Settings
usual = record { margin = 300; carries = 54 }
