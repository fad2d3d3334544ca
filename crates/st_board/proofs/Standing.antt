-- What a board keeps shows what it stands for.
use Rattle.std.proofs.Common.{◌≡◌, ◌∙◌, ◌≤◌, ◌<◌, ◌⊎◌, inl, inr, ◌||◌, ℕ, Bool, true, false, cond, nat_le, leb-true, le-leb, List, [], ◌∷◌, filter, Option, Some, None, option_and_then, IfSome, IsSomeAnd, refl, sym, ap, subst, arith}
use Rattle.std.specs.List.{list_any}
use Rattle.std.specs.Option.{option_map, option_map_or, option_or}
use Rattle.st_ptree.specs.Entries.{last_of}
use Rattle.st_versioned.specs.Window.{Kept, last_to}
use Rattle.st_board.proofs.Sealing.{inside}
use Rattle.st_model.specs.State.{Given, Opening}
use Rattle.st_versioned.specs.Root.{Row, decided, over, value_at}
use Rattle.st_versioned.specs.Window.{root_of}
use Rattle.st_course.specs.Course.{Course}
use Rattle.st_course.specs.declared.job.CommitJob.{CommitJob}
use Rattle.st_board.specs.Base.{Store, value_behind}
use Rattle.st_board.specs.Kept.{IsUsers}
use Rattle.st_board.specs.Stands.{Keeps, Standing, StandsFor}
use Rattle.st_board.specs.Tells.{TellsTo}
use Rattle.st_course.specs.Sent.{value_of}
use Rattle.st_board.proofs.Commits.{flight-leads}
use Rattle.st_board.proofs.Telling.{tells-value}

-- a root stands at a version where one stands at or below an earlier one
has-root : (first version : ℕ) (roots : List Kept) → first ≤ version → list_any (λ kept. nat_le kept.version first) roots ≡ true → last_to version roots ≡ None → ⊥
has-root first version [] le some none = cc (some)
has-root first version (kept ∷ roots) le some none = by_test (nat_le kept.version version) refl (nat_le kept.version first) refl (λ is any. has-root first version roots le any is)
  where
    by_test : (t : Bool) → nat_le kept.version version ≡ t → (u : Bool) → nat_le kept.version first ≡ u
        → (last_of (filter (λ k. nat_le k.version version) roots) ≡ None → list_any (λ k. nat_le k.version first) roots ≡ true → ⊥) → ⊥
    by_test true is u at rest = by_last (last_of (filter (λ k. nat_le k.version version) roots)) (sym (ap (λ (b : Bool). last_of (cond b (kept ∷ filter (λ k. nat_le k.version version) roots) (filter (λ k. nat_le k.version version) roots))) is) ∙ none)
      where
        by_last : (o : Option Kept) → option_or o (Some kept) ≡ None → ⊥
        by_last None e = cc (e)
        by_last (Some other) e = cc (e)
    by_test false is true at rest = cc (sym is ∙ le-leb kept.version version (let low = leb-true _ _ at in omega arith))
    by_test false is false at rest =
        rest (sym (ap (λ (b : Bool). last_of (cond b (kept ∷ filter (λ k. nat_le k.version version) roots) (filter (λ k. nat_le k.version version) roots))) is) ∙ none)
        (sym (ap (λ (b : Bool). b || list_any (λ k. nat_le k.version first) roots) at) ∙ some)

pub stands-for : (given : Given) (opening : Opening) (store : Store) (board : Standing) → Keeps given opening store board → StandsFor given opening store board
stands-for given opening store board keeps = record {
  legal = keeps.legal;
  going_on = keeps.going_on;
  pieces = keeps.pieces;
  versions = λ version key low high users.
      told version key (subst (λ d. d ≤ version) keeps.oldest low) users (root_of board.window version) (there version (subst (λ d. d ≤ version) keeps.oldest low) high) (keeps.versions.tells version key (subst (λ d. d ≤ version) keeps.oldest low) high users);
  base_is = keeps.versions.base_is;
  above = keeps.versions.above;
  flight = λ job in_flight key users. flight-leads given opening store board keeps job in_flight key users;
  flown = ap (λ (o : Option Course). option_map (λ (j : CommitJob). j.version) (option_and_then (λ course. course.job) o)) keeps.is_course ∙ keeps.follows.flown;
  lands = λ job in_flight. keeps.follows.lands job (sym (ap (option_and_then (λ (course : Course). course.job)) keeps.is_course) ∙ in_flight);
  committed = λ key users.
      keeps.follows.committed key users
      ∙ ap (λ o. value_behind key (value_at store.pairs key) (option_map_or (λ (course : Course). course.made) o [])) (sym keeps.is_course);
}
  where
    there : (version : ℕ) → board.state.durable ≤ version → version ≤ board.state.newest → root_of board.window version ≡ None → ⊥
    there version low high none =
        by_last (last_to version board.window.roots) (has-root board.window.forgotten version board.window.roots (let e = keeps.versions.forgotten_is in omega arith) keeps.versions.stands.first)
        (sym (inside board.window version (let e = keeps.versions.forgotten_is in omega arith) (let e = keeps.versions.newest_is in omega arith)) ∙ none)
      where
        by_last : (o : Option Kept) → (o ≡ None → ⊥) → option_map (λ kept. kept.root) o ≡ None → ⊥
        by_last None none_is e = none_is refl
        by_last (Some kept) none_is e = cc (e)

    told : (version : ℕ) (key : List ℕ) → board.state.durable ≤ version → IsUsers key → (o : Option (List Row)) → (o ≡ None → ⊥) → IfSome o (λ r. TellsTo given.log board.state.durable version key (decided r key))
        → IsSomeAnd o (λ r. over r board.base key ≡ value_of given.log version key)
    told version key low users None none_is is = absurd (none_is refl)
    told version key low users (Some r) none_is is = tells-value given.log key board.state.durable version (value_at board.base key) (decided r key) low (keeps.versions.base_is key users) is

-- a version that can be read isn't outside those of the window
pub never-outside : (given : Given) (opening : Opening) (store : Store) (board : Standing) → Keeps given opening store board → (version : ℕ)
    → board.state.oldest ≤ version → version ≤ board.state.newest → (version < board.window.forgotten) ⊎ (board.window.newest < version) → ⊥
never-outside given opening store board keeps version low high (inl below) = let a = keeps.oldest in let b = keeps.versions.forgotten_is in omega arith
never-outside given opening store board keeps version low high (inr above) = let c = keeps.versions.newest_is in omega arith
