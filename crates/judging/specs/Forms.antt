-- The forms as the code names them.
use Rattle.reading.specs.Header.{BookForm, old, new}
use Rattle.judging.specs.declared.form.Form.{Form}
use Rattle.judging.specs.declared.form.Form.TheVariants.{Old, New}

abbrev pub form_named : Form → BookForm
form_named Old = old
form_named New = new
