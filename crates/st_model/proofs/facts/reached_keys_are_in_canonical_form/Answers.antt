use Rattle.st_model.proofs.Forms.{assigned_form, forms, next_form}
use Rattle.st_model.proofs.facts.reached_keys_are_in_canonical_form.Goals as goal

pub returns : goal.returns
returns c = record { assigned = assigned_form; last = forms; next = next_form }
