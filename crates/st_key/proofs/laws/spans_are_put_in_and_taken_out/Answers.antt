use Rattle.st_key.specs.Forms.{canonical-with_span, canonical-without_span}
use Rattle.st_key.specs.Members.{holds-with_span, holds-without_span}
use Rattle.st_key.proofs.laws.spans_are_put_in_and_taken_out.Goals as goal

pub returns : goal.returns
returns c = record {
  put_in = holds-with_span;
  taken_out = holds-without_span;
  form_with = canonical-with_span;
  form_without = canonical-without_span;
}
