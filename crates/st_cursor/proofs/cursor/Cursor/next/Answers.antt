use Rattle.std.proofs.Common.{◌≡◌, ◌∙◌, ◌<◌, ap, sym, subst, nat_lt, length, IfSome, get_or, refl}
use Rattle.std.specs.List.{slice_get}
use Rattle.std.specs.Option.{option_copied}
use Rattle.st_cursor.specs.Reading.{Reading, next_of}
use Rattle.st_cursor.proofs.Places.{at_place, copied_if}
use Rattle.st_cursor.proofs.cursor.Cursor.next.Goals as goal

pub returns : goal.returns
returns c =
    let log = c.self.inside.log.items in
    let place = c.go_on-place.result in
    let there : option_copied c.get.result ≡ slice_get log place =
    at_place log place c.get.result (c.get.ensures.lookup.0 ∙ ap (λ l. nat_lt place (length l)) c.deref.ensures.value)
    (subst (λ l. IfSome c.get.result (λ x. x.now ≡ get_or l place x.now)) c.deref.ensures.value c.get.ensures.lookup.1) in
    let next : option_copied c.get.result ≡ next_of c.args.self.now =
    there ∙ ap (λ (v : Reading). slice_get v.log place) c.self.view_is ∙ c.go_on-place.ensures.place in (
      (refl, λ _. tt, c.self.view_is ∙ c.go_on-place.ensures.after),
      record {
        after = tt;
        next = next;
        kept = copied_if (λ batch. c.args.self.now.popped < batch.version) c.get.result _ next c.go_on-place.ensures.kept;
      },
    )
