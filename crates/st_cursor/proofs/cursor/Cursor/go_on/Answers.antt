use Rattle.std.proofs.Common.{◌≡◌, ◌∙◌, ap, sym, subst}
use Rattle.std.specs.List.{slice_get}
use Rattle.st_cursor.specs.Reading.{Reading, next_of}
use Rattle.st_cursor.proofs.Places.{first_is}
use Rattle.st_cursor.proofs.cursor.Cursor.go_on.Goals as goal

pub returns-in-Some-clause-place : goal.returns-in-Some-clause-place
returns-in-Some-clause-place c =
    let cursor = c.self.inside in
    ap (λ (v : Reading). slice_get v.log cursor.place) c.move_to.ensures
    ∙ subst (λ (v : Reading). slice_get v.log cursor.place ≡ next_of v) c.self.view_is (ap (slice_get cursor.log.items) c.self.invariant.0 ∙ sym (first_is cursor.last cursor.log.items))

pub returns-in_default-clause-place : goal.returns-in_default-clause-place
returns-in_default-clause-place c =
    let cursor = c.self.inside in
    subst (λ (v : Reading). slice_get v.log cursor.place ≡ next_of v) c.self.view_is (ap (slice_get cursor.log.items) c.self.invariant.0 ∙ sym (first_is cursor.last cursor.log.items))
