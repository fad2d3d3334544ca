-- What a store opens to.
use Rattle.std.proofs.Common.{◌≡◌, ◌∙◌, ◌<◌, ℕ, Bool, true, false, cond, T, List, [], ◌∷◌, filter, fold, nat_le, Option, Some, None, Result, Ok, Err, IsTrue, refl, sym, ap, subst, arith, leb-true}
use Rattle.std.specs.Cmp.Lexicographic.{slice_cmp}
use Rattle.std.specs.FinMap.Entries.{find-where_key, is_sorted, is_sorted-put, is_sorted-where_key, same_entries}
use Rattle.std.specs.Ordering.{nat_cmp}
use Rattle.std.specs.Result.{IsOkAnd, result_map_both}
use Rattle.std.proofs.lemmas.Cmp.{nat_list_cmp_total}
use Rattle.std.proofs.lemmas.Map.Lookups.{exact_bytes}
use Rattle.st_course.specs.Jobs.{meta_of as state_of}
use Rattle.st_disk.specs.History.{Files}
use Rattle.st_engine.specs.Holding.{MountsTo, is_none_read}
use Rattle.st_engine.specs.Replay.{replay}
use Rattle.st_fold.specs.Map.{Map, apply_batch, batches_to, folded, value_at}
use Rattle.st_fold.specs.Plain.{Rises}
use Rattle.st_fold.specs.declared.report.Damage.{Damage}
use Rattle.st_fold.specs.declared.report.Damage.TheVariants.{Meta}
use Rattle.st_key.specs.Spans.{Span, holds}
use Rattle.st_meta.specs.Reading.{meta_of}
use Rattle.st_meta.specs.Stored.{Stores}
use Rattle.st_meta.specs.declared.state.Meta.{Meta as State}
use Rattle.st_model.specs.State.{Given, Opening, assigned, base_of, move_span}
use Rattle.st_mutation.specs.declared.batch.Batch.{Batch}
use Rattle.st_queue.specs.Frames.{Damage as Place}
use Rattle.st_queue.specs.Writing.{frames_of}
use Rattle.st_queue.specs.declared.frame.Frame.{Frame}
use Rattle.st_restart.specs.After.{IsStoreOf, OpenTo}
use Rattle.st_restart.specs.Agreement.{Agrees, opening_of}
use Rattle.st_restart.specs.Opened.{Opened, opened, opened_as, opened_fresh, opened_of, opened_with}

-- files with frames that are read open as those frames say
pub opens-as : (own : List Span) (pairs : Map) (files : Files) → MountsTo pairs files
    → opened own files ≡ result_map_both (λ one. one) Meta (opened_as own (is_none_read (frames_of files)) pairs)
opens-as own pairs files mounts =
    ap (opened_of own) mounts.read
    ∙ (λ i. result_map_both (λ one. one) Meta (opened_as own (is_none_read (sym mounts.read i)) (mounts.from_empty i)))

none-below : (low : ℕ) (log : List Batch) → Rises low log → batches_to 0 log ≡ []
none-below low [] rises = refl
none-below low (batch ∷ log) rises = by_test (nat_le batch.version 0) refl (none-below batch.version log rises.1)
  where
    by_test : (t : Bool) → nat_le batch.version 0 ≡ t → batches_to 0 log ≡ [] → cond t (batch ∷ batches_to 0 log) (batches_to 0 log) ≡ []
    by_test true is later = absurd (let le = leb-true batch.version 0 is in let lt = rises.0 in omega arith)
    by_test false is later = later

-- a store without a frame is the log's before it begins
pub agrees-fresh : (own : List Span) (log : List Batch) → Rises 0 log → Agrees own log (opened_fresh own)
agrees-fresh own log rises = record {
  version = refl;
  assigned_is = ap (fold (λ spans batch. fold move_span spans batch.moves) own) (sym nothing);
  base = ap (λ batches. filter (λ pair. holds own pair.0) (fold apply_batch [] batches)) (sym nothing);
}
  where
    nothing : batches_to 0 log ≡ []
    nothing = none-below 0 log rises

pub opens-untouched : (given : Given) (opening : Opening) (pairs : Map) (files : Files) → Rises 0 given.log → MountsTo pairs files
    → is_none_read (frames_of files) ≡ true → opening ≡ record { version = 0; available = given.own }
    → OpenTo given (λ one. one ≡ opening) files
opens-untouched given opening pairs files rises mounts none is =
    subst (λ r. IsOkAnd r (λ one. (opening_of one ≡ opening) × Agrees given.own given.log one))
    (sym (opens-as given.own pairs files mounts ∙ ap (λ fresh. result_map_both (λ one. one) Meta (opened_as given.own fresh pairs)) none))
    (sym is, agrees-fresh given.own given.log rises)

abbrev Sorted : Map → Type 0
Sorted pairs = IsTrue (is_sorted (slice_cmp nat_cmp) pairs)

as_T : (b : Bool) → IsTrue b → T b
as_T b is = subst T (sym is) tt

value_where : (test : List ℕ → Bool) (pairs : Map) (key : List ℕ) → value_at (filter (λ pair. test pair.0) pairs) key ≡ cond (test key) (value_at pairs key) None
value_where test pairs key = find-where_key (slice_cmp nat_cmp) test key (λ other e. ap test (sym (exact_bytes key other e))) pairs

-- sorted maps with the same values of the keys that pass a test have the same pairs of those
same_where : (test : List ℕ → Bool) (one other : Map) → Sorted one → Sorted other
    → ((key : List ℕ) → test key ≡ true → value_at one key ≡ value_at other key)
    → filter (λ pair. test pair.0) one ≡ filter (λ pair. test pair.0) other
same_where test one other one_sorted other_sorted same =
    same_entries (slice_cmp nat_cmp) nat_list_cmp_total exact_bytes (filter (λ pair. test pair.0) one) (filter (λ pair. test pair.0) other)
    (is_sorted-where_key (slice_cmp nat_cmp) test one (as_T _ one_sorted))
    (is_sorted-where_key (slice_cmp nat_cmp) test other (as_T _ other_sorted))
    (λ key. value_where test one key ∙ by_test key (test key) refl ∙ sym (value_where test other key))
  where
    by_test : (key : List ℕ) (t : Bool) → test key ≡ t → cond t (value_at one key) None ≡ cond t (value_at other key) None
    by_test key true is = same key is
    by_test key false is = refl

-- a store with frames is the one that it says
pub opens-written : (given : Given) (opening : Opening) (pairs : Map) (files : Files)
    → ((pairs : Map) (meta : State) → Stores pairs meta → meta_of pairs ≡ Ok meta)
    → Sorted pairs → Sorted (folded given.log opening.version)
    → MountsTo pairs files → is_none_read (frames_of files) ≡ false → IsStoreOf given opening pairs
    → OpenTo given (λ one. one ≡ opening) files
opens-written given opening pairs files read sorted folded_sorted mounts some store =
    subst (λ r. IsOkAnd r (λ one. (opening_of one ≡ opening) × Agrees given.own given.log one))
    (sym (opens-as given.own pairs files mounts
    ∙ ap (λ fresh. result_map_both (λ one. one) Meta (opened_as given.own fresh pairs)) some
    ∙ ap (λ r. result_map_both (λ one. one) Meta (result_map_both (opened_with pairs) (λ which. which) r)) (read pairs (state_of given opening) store.stored))) (
      refl,
      record {
        version = store.version;
        assigned_is = refl;
        base = same_where (holds opening.available) pairs (folded given.log opening.version) sorted folded_sorted store.values;
      },
    )
