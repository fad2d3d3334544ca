use Rattle.std.proofs.Common.{◌≡◌, ◌∙◌, ◌<◌, ◌≤◌, ap, sym, subst, nat_lt, length, IfSome, Some, None, is_some, get_or}
use Rattle.std.specs.List.{find, slice_get}
use Rattle.std.specs.Option.{option_copied}
use Rattle.st_cursor.specs.Reading.{Reading, next_of}
use Rattle.st_cursor.proofs.Places.{at_place, copied_if, first_is, found_above}
use Rattle.st_cursor.proofs.cursor.Cursor.following.Goals as goal

pub returns : goal.returns
returns c =
    let cursor = c.self.inside in
    let there : option_copied c.get.result ≡ slice_get cursor.log.items cursor.place =
    at_place cursor.log.items cursor.place c.get.result (c.get.ensures.lookup.0 ∙ ap (λ l. nat_lt cursor.place (length l)) c.deref.ensures.value)
    (subst (λ l. IfSome c.get.result (λ x. x.now ≡ get_or l cursor.place x.now)) c.deref.ensures.value c.get.ensures.lookup.1) in
    let next : option_copied c.get.result ≡ find (λ batch. nat_lt cursor.last batch.version) cursor.log.items =
    there ∙ ap (slice_get cursor.log.items) c.self.invariant.0 ∙ sym (first_is cursor.last cursor.log.items) in
    record {
      next = subst (λ (v : Reading). option_copied c.get.result ≡ next_of v) c.self.view_is next;
      later = subst (λ (v : Reading). IfSome c.get.result (λ batch. v.last < batch.now.version)) c.self.view_is (copied_if (λ batch. cursor.last < batch.version) c.get.result _ next (found_above cursor.last cursor.log.items));
      kept = subst (λ (v : Reading). v.popped ≤ v.last) c.self.view_is c.self.invariant.1;
    }
