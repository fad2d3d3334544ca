use Rattle.std.proofs.Common.{rules, ◌≡◌, ◌∙◌, true, None, Some, List, ℕ, Option, sym, ap}
use Rattle.std.specs.Option.{option_map_or}
use Rattle.st_fold.specs.Reading.{span_of_key}
use Rattle.st_fold.specs.Map.{value_at}
use Rattle.st_fold.specs.declared.request.Answer.TheVariants as tells
use Rattle.st_ptree.specs.Entries.{pairs_of}
use Rattle.st_session.proofs.Next.{key-inside}
use Rattle.st_session.proofs.search.get.Goals as goal
use Rattle.st_versioned.specs.Root.{over}

pub short_value-requires : goal.short_value-requires
short_value-requires g c = (c.requires c.args.key.now c.in-Some.value.now (key-inside c.args.key.now)
    (ap (over (pairs_of c.args.overlay.now.root.now.entries) (pairs_of c.args.overlay.now.base.now)) (sym c.bytes.ensures.value) ∙ sym c.in-Some.ensures.value)).1

pub returns-in_ok-short_value-in-Some : goal.returns-in_ok-short_value-in-Some
returns-in_ok-short_value-in-Some g c = λ pairs map.
    ap (λ (v : List ℕ). tells.Value v) c.in_ok-short_value-in-Some.ensures
    ∙ ap (λ (o : Option (List ℕ)). option_map_or tells.Value o tells.Absent)
    (c.in-Some.ensures.value ∙ ap (over (pairs_of c.args.overlay.now.root.now.entries) (pairs_of c.args.overlay.now.base.now)) c.bytes.ensures.value ∙ map.values c.args.key.now (key-inside c.args.key.now))

pub returns-in-None : goal.returns-in-None
returns-in-None g c = λ pairs map.
    ap (λ (o : Option (List ℕ)). option_map_or tells.Value o tells.Absent)
    (c.in-None.ensures.value ∙ ap (over (pairs_of c.args.overlay.now.root.now.entries) (pairs_of c.args.overlay.now.base.now)) c.bytes.ensures.value ∙ map.values c.args.key.now (key-inside c.args.key.now))
