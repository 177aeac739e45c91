use Rattle.script_text.specs.declared.line.Form.{Form}
use Rattle.script_text.specs.declared.line.Form.TheVariants as code
use Rattle.script_text.specs.Line as line

-- the form of a line in the code, as contracts see it
abbrev pub form_value : Form → line.Form
form_value code.Blank = line.Idle
form_value (code.Event words) = line.Eventful words
form_value (code.Other word words) = line.Other word.now words
