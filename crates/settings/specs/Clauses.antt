-- What the readers inside this crate answer.
use Rattle.std.specs.Prelude.{Result, Ok, Err}
use Rattle.common.specs.Refusals.{refusal_of}
use Rattle.common.specs.declared.refusal.Refusal.{Refusal}
use Rattle.settings.specs.declared.Settings.{Settings}
use Rattle.settings.specs.Reading.{Parsed, refused, read}

-- the settings, or the refusal
abbrev pub parsed_result : Parsed → Result Settings Refusal
parsed_result refused = Err (refusal_of 1)
parsed_result (read s) = Ok s
