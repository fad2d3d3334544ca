use Rattle.std.proofs.Common.{◌≡◌, ◌∙◌, false, sym, ap}
use Rattle.std.proofs.lemmas.Bool.{false≢true}
use Rattle.st_ptree.specs.Entries.{pairs_of}
use Rattle.st_restart.specs.Agreement.{first_difference}
use Rattle.st_restart.proofs.Differences.{no-difference}
use Rattle.st_restart.proofs.agreement.agreed.Goals as goal

pub returns-then-not-have_same_keys : goal.returns-then-not-have_same_keys
returns-then-not-have_same_keys c = record {
  version = sym c.is_version.ensures ∙ c.if-not-is_version.false;
  other = λ same. absurd (false≢true (sym c.if-not-have_same_keys.true ∙ c.have_same_keys.ensures.1 (same ∙ sym c.in_ok-assigned.ensures)));
}

pub returns-in-Some : goal.returns-in-Some
returns-in-Some c = record {
  version = sym c.is_version.ensures ∙ c.if-not-is_version.false;
  assigned_is = c.have_same_keys.ensures.0 c.if-not-have_same_keys.false ∙ c.in_ok-assigned.ensures;
  first =
      ap (first_difference (pairs_of c.args.opening.now.base)) (sym (c.deref.ensures.value ∙ c.in_ok-rows.ensures))
      ∙ sym c.in_ok-key.ensures ∙ c.in-Some.is;
}

pub returns : goal.returns
returns c = record {
  version = sym c.is_version.ensures ∙ c.if-not-is_version.false;
  assigned_is = c.have_same_keys.ensures.0 c.if-not-have_same_keys.false ∙ c.in_ok-assigned.ensures;
  base =
      no-difference (pairs_of c.args.opening.now.base) _ (sym c.in_ok-key.ensures ∙ c.in-None.is)
      ∙ c.deref.ensures.value ∙ c.in_ok-rows.ensures;
}
