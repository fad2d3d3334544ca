-- What the window keeps is what was sent.
use Rattle.std.proofs.Common.{◌≡◌, ◌∙◌, ◌<◌, ◌++◌, ◌-◌, ℕ, Bool, true, false, cond, List, [], ◌∷◌, filter, fold, map, Option, Some, None, option_and_then, refl, sym, ap, arith, append_assoc}
use Rattle.std.specs.List.{AllByRecursion, cons_option, flat_map}
use Rattle.std.specs.Option.{option_map, option_map_or}
use Rattle.std.proofs.lemmas.List.{append-nil, map-append}
use Rattle.st_atomic.specs.Atomic.{changed}
use Rattle.st_course.specs.Jobs.{op_of}
use Rattle.st_course.specs.Sent.{compares, dropped, held_of, result_as, sent_by, sent_in, sent_of, sent_spans, sent_to, stored_as, value_of}
use Rattle.st_key.specs.Spans.{Span, all_keys, within}
use Rattle.st_model.specs.Pieces.{inject, move_piece}
use Rattle.st_model.specs.State.{Given, State, assigned}
use Rattle.st_mutation.specs.Clip.{clipped, common, value_by_part}
use Rattle.st_mutation.specs.Effect.{value_by}
use Rattle.st_mutation.specs.declared.batch.Batch.{Batch}
use Rattle.st_mutation.specs.declared.batch.Mutation.{Mutation}
use Rattle.st_mutation.specs.declared.batch.Mutation.TheVariants.{Set, Clear, Atomic}
use Rattle.st_versioned.specs.Root.{Pairs, over, value_at}
use Rattle.st_versioned.specs.Window.{Versions}
use Rattle.st_board.specs.Base.{IsOfUsers, IsWrite, all_served, value_behind}
use Rattle.st_board.specs.Kept.{IsUsers, led_to}
use Rattle.st_board.specs.Storing.{all_stored, making_root, stored_in, stored_parts}
use Rattle.st_board.proofs.Deciding.{WritesDecide}
use Rattle.st_board.proofs.Lists.{all-append}
use Rattle.st_board.proofs.Logs.{IsNext, value-between}
use Rattle.st_board.proofs.Stores.{Making, making-part, noted, value-now, with-noted}

-- the keys of users, as spans
abbrev pub users : List Span
users = all_keys ∷ []

-- what is stored, as a list
abbrev pub listed : Option Mutation → List Mutation
listed s = cons_option s []

-- what is stored of a part, where keys have these values before
abbrev stored_of_part : (List ℕ → Option (List ℕ)) → Option Mutation → List Mutation
stored_of_part before part = listed (option_and_then (λ p. stored_as p before) part)

-- ---- sets and clears

-- what is stored of a mutation is noted as it is
noted-stored : (version : ℕ) (mutation : Mutation) (before : List ℕ → Option (List ℕ)) → noted version (stored_as mutation before) ≡ map (λ m. (version, m)) (listed (stored_as mutation before))
noted-stored version (Set key value) before = refl
noted-stored version (Clear span) before = refl
noted-stored version (Atomic op key operand) before = by_result (before key) (changed op (before key) operand)
  where
    by_result : (old after : Option (List ℕ)) → noted version (result_as op key old after) ≡ map (λ m. (version, m)) (listed (result_as op key old after))
    by_result old (Some value) = by_test (compares op)
      where
        by_test : (t : Bool) → noted version (cond t None (Some (Set key value))) ≡ map (λ m. (version, m)) (listed (cond t None (Some (Set key value))))
        by_test true = refl
        by_test false = refl
    by_result None None = refl
    by_result (Some value) None = refl

-- the key of a set and of an atomic operation is a user's
abbrev SetsUsers : Mutation → Type 0
SetsUsers (Set key value) = IsUsers key
SetsUsers (Clear span) = Unit {0}
SetsUsers (Atomic op key operand) = IsUsers key

-- and is a set or a clear
writes-stored : (mutation : Mutation) (before : List ℕ → Option (List ℕ)) → SetsUsers mutation → AllByRecursion IsWrite (listed (stored_as mutation before))
writes-stored (Set key value) before users = (users, tt)
writes-stored (Clear span) before users = (tt, tt)
writes-stored (Atomic op key operand) before users = by_result (before key) (changed op (before key) operand)
  where
    by_result : (old after : Option (List ℕ)) → AllByRecursion IsWrite (listed (result_as op key old after))
    by_result old (Some value) = by_test (compares op)
      where
        by_test : (t : Bool) → AllByRecursion IsWrite (listed (cond t None (Some (Set key value))))
        by_test true = tt
        by_test false = (users, tt)
    by_result None None = tt
    by_result (Some value) None = (tt, tt)

writes-part : (before : List ℕ → Option (List ℕ)) (mutation : Mutation) → AllByRecursion IsWrite (stored_of_part before (clipped mutation all_keys))
writes-part before (Set key value) = by_test (within all_keys key) refl
  where
    by_test : (t : Bool) → within all_keys key ≡ t → AllByRecursion IsWrite (stored_of_part before (cond t (Some (Set key value)) None))
    by_test true is = writes-stored (Set key value) before is
    by_test false is = tt
writes-part before (Clear span) = by_part (common span all_keys)
  where
    by_part : (part : Option Span) → AllByRecursion IsWrite (stored_of_part before (option_map Clear part))
    by_part None = tt
    by_part (Some part) = (tt, tt)
writes-part before (Atomic op key operand) = by_test (within all_keys key) refl
  where
    by_test : (t : Bool) → within all_keys key ≡ t → AllByRecursion IsWrite (stored_of_part before (cond t (Some (Atomic op key operand)) None))
    by_test true is = writes-stored (Atomic op key operand) before is
    by_test false is = tt

pub writes-sent : (before : List ℕ → Option (List ℕ)) (mutations : List Mutation) → AllByRecursion IsWrite (sent_of users before mutations)
writes-sent before [] = tt
writes-sent before (mutation ∷ mutations) =
    all-append IsWrite (sent_to users before mutation) (sent_of users (λ key. value_by key (before key) mutation) mutations)
    (writes-part before mutation)
    (writes-sent (λ key. value_by key (before key) mutation) mutations)

pub writes-dated : (version : ℕ) (mutations : List Mutation) → AllByRecursion IsWrite mutations → AllByRecursion (λ (sent : ℕ × Mutation). IsWrite sent.1) (map (λ m. (version, m)) mutations)
writes-dated version [] all = tt
writes-dated version (mutation ∷ mutations) all = (all.0, writes-dated version mutations all.1)

-- sets and clears do to a key as operations what they do as mutations
pub ops-led : (key : List ℕ) (before : Option (List ℕ)) (sent : List (ℕ × Mutation)) → AllByRecursion (λ (made : ℕ × Mutation). IsWrite made.1) sent
    → value_behind key before (flat_map (λ made. op_of made.1) sent) ≡ led_to key before sent
ops-led key before [] all = refl
ops-led key before ((version, Set other value) ∷ sent) all = ops-led key (value_by key before (Set other value)) sent all.1
ops-led key before ((version, Clear span) ∷ sent) all = ops-led key (value_by key before (Clear span)) sent all.1
ops-led key before ((version, Atomic op other operand) ∷ sent) all = absurd all.0

-- and change keys of users
pub ops-users : (sent : List (ℕ × Mutation)) → AllByRecursion (λ (made : ℕ × Mutation). IsWrite made.1) sent → AllByRecursion IsOfUsers (flat_map (λ made. op_of made.1) sent)
ops-users [] all = tt
ops-users ((version, Set key value) ∷ sent) all = (all.0, ops-users sent all.1)
ops-users ((version, Clear span) ∷ sent) all = (tt, ops-users sent all.1)
ops-users ((version, Atomic op key operand) ∷ sent) all = absurd all.0

-- ---- the mutations that a batch sends

-- what is stored of the part of a mutation depends on the values of users' keys alone
part-same : (mutation : Mutation) (f g : List ℕ → Option (List ℕ)) → ((key : List ℕ) → IsUsers key → f key ≡ g key)
    → stored_of_part f (clipped mutation all_keys) ≡ stored_of_part g (clipped mutation all_keys)
part-same (Set key value) f g same = by_test (within all_keys key)
  where
    by_test : (t : Bool) → stored_of_part f (cond t (Some (Set key value)) None) ≡ stored_of_part g (cond t (Some (Set key value)) None)
    by_test true = refl
    by_test false = refl
part-same (Clear span) f g same = by_common (common span all_keys)
  where
    by_common : (c : Option Span) → stored_of_part f (option_map Clear c) ≡ stored_of_part g (option_map Clear c)
    by_common None = refl
    by_common (Some both) = refl
part-same (Atomic op key operand) f g same = by_test (within all_keys key) refl
  where
    by_test : (t : Bool) → within all_keys key ≡ t → stored_of_part f (cond t (Some (Atomic op key operand)) None) ≡ stored_of_part g (cond t (Some (Atomic op key operand)) None)
    by_test true is = ap (λ v. listed (result_as op key v (changed op v operand))) (same key is)
    by_test false is = refl

module _ (log : List Batch) (base : Pairs) (durable newest version : ℕ) (later : newest < version) (has : (key : List ℕ) → IsUsers key → value_at base key ≡ value_of log durable key) (writing : WritesDecide) (inside : (mutation : Mutation) (key : List ℕ) (now : Option (List ℕ)) → IsUsers key → value_by_part key now (clipped mutation all_keys) ≡ value_by key now mutation) where
  -- a window in the making, where these are the values now
  abbrev AllMaking : Versions → (List ℕ → Option (List ℕ)) → Type 0
  AllMaking window now = (key : List ℕ) → IsUsers key → Making log base durable newest version window key (now key)

  sent-part : (window : Versions) (now : List ℕ → Option (List ℕ)) (mutation : Mutation) → AllMaking window now
      → (stored_parts base all_served window mutation).mutations ≡ window.mutations ++ map (λ m. (version, m)) (sent_to users now mutation)
  sent-part window now mutation making =
      by_part (clipped mutation all_keys)
      ∙ ap (λ l. window.mutations ++ map (λ m. (version, m)) l) (part-same mutation before now (λ key is. is_now key is))
    where
      before : List ℕ → Option (List ℕ)
      before = over (making_root window) base

      first : Making log base durable newest version window [] (now [])
      first = making [] refl

      is_now : (key : List ℕ) → IsUsers key → before key ≡ now key
      is_now key is = value-now log base durable newest version key later (has key is) window (now key) (making key is)

      by_part : (part : Option Mutation) → (option_map_or (stored_in base window) part window).mutations ≡ window.mutations ++ map (λ m. (version, m)) (stored_of_part before part)
      by_part None = sym (append-nil window.mutations)
      by_part (Some part) = with-noted version first.root (stored_as part before) window first.is ∙ ap (λ l. window.mutations ++ l) (noted-stored version part before)

  pub sent-all : (window : Versions) (now : List ℕ → Option (List ℕ)) (mutations : List Mutation) → AllMaking window now
      → (all_stored base all_served window mutations).mutations ≡ window.mutations ++ map (λ m. (version, m)) (sent_of users now mutations)
  sent-all window now [] making = sym (append-nil window.mutations)
  sent-all window now (mutation ∷ mutations) making =
      sent-all next (λ key. value_by key (now key) mutation) mutations
      (λ key is. making-part log base durable newest version key later (has key is) writing (λ m v. inside m key v is) window (now key) mutation (making key is))
      ∙ ap (λ l. l ++ map (λ m. (version, m)) rest) (sent-part window now mutation making)
      ∙ append_assoc window.mutations (map (λ m. (version, m)) first) (map (λ m. (version, m)) rest)
      ∙ ap (λ l. window.mutations ++ l) (sym (map-append (λ m. (version, m)) first rest))
    where
      next : Versions
      next = stored_parts base all_served window mutation

      first : List Mutation
      first = sent_to users now mutation

      rest : List Mutation
      rest = sent_of users (λ key. value_by key (now key) mutation) mutations

-- ---- a batch over pieces that are all served

-- a batch that moves nothing sends its own mutations alone
pub sent-batch : (given : Given) (state : State) (batch : Batch) → state.pieces ≡ all_served → batch.moves ≡ [] → IsNext given.log state.newest batch
    → sent_by given state batch ≡ sent_of users (value_of given.log state.newest) batch.mutations
sent-batch given state batch served still next =
    (λ i. let moved = fold (move_piece batch.version) (served i) (still i) in
    dropped (assigned given.own given.log state.newest) (still i)
    ++ flat_map (held_of given.log state.newest) moved
    ++ sent_in given.log (sent_spans (map (inject batch.version) moved)) batch)
    ∙ ap (λ before. sent_of users before batch.mutations) same
  where
    same : value_of given.log (batch.version - 1) ≡ value_of given.log state.newest
    same = λ i key. value-between given.log state.newest batch key next (batch.version - 1) (let lt = next.above in omega arith) (let lt = next.above in omega arith) i

-- what is sent of a version passes a test that the version passes
pub passes-dated : (p : ℕ → Bool) (version : ℕ) → p version ≡ true → (mutations : List Mutation)
    → filter (λ (made : ℕ × Mutation). p made.0) (map (λ m. (version, m)) mutations) ≡ map (λ m. (version, m)) mutations
passes-dated p version is [] = refl
passes-dated p version is (mutation ∷ mutations) =
    ap (λ t. cond t ((version, mutation) ∷ rest) rest) is ∙ ap (λ l. (version, mutation) ∷ l) (passes-dated p version is mutations)
  where
    rest : List (ℕ × Mutation)
    rest = filter (λ (made : ℕ × Mutation). p made.0) (map (λ m. (version, m)) mutations)
