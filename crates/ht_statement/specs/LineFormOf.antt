-- How a form that borrows its words stands for the form.
use Rattle.ht_statement.specs.declared.form.LineForm.{LineForm as Borrowed}
use Rattle.ht_statement.specs.declared.form.LineForm.TheVariants.{Blank as BorrowedBlank, Input as BorrowedInput, Output as BorrowedOutput, Definition as BorrowedDefinition}
use Rattle.ht_statement.specs.LineForm.{LineForm, blank_form, input_form, output_form, definition_form}
use Rattle.ht_statement.specs.StatementOf.{texts_of}

-- the form of a line that a stored one stands for
abbrev pub form_meant : Borrowed → LineForm
form_meant BorrowedBlank = blank_form
form_meant (BorrowedInput name) = input_form name.now
form_meant (BorrowedOutput name) = output_form name.now
form_meant (BorrowedDefinition out kind args) = definition_form out.now kind.now (texts_of args.items)
