-- What a board's view tells of the reply.
use Rattle.std.proofs.Common.{◌≡◌, ◌∙◌, ◌≤◌, ◌<◌, ◌+◌, ◌==◌, ℕ, suc, Bool, true, false, cond, nat_lt, le-leb, List, fold, length, IsTrue, Option, Some, None, refl, sym, ap, subst, arith}
use Rattle.std.specs.Cmp.Lexicographic.{slice_cmp}
use Rattle.std.specs.FinMap.Entries.{is_sorted}
use Rattle.std.specs.Ordering.{nat_cmp}
use Rattle.std.proofs.lemmas.Bool.{eqb-true, lt-leb}
use Rattle.st_board.specs.declared.view.View.{View}
use Rattle.st_board.specs.Views.{IsReadable}
use Rattle.st_fold.specs.declared.request.Answer.{Answer}
use Rattle.st_fold.specs.declared.request.Answer.TheVariants.{FutureVersion, TooOld, WrongShard}
use Rattle.st_fold.specs.declared.request.Ask.{Ask}
use Rattle.st_course.specs.Sent.{value_of}
use Rattle.st_fold.specs.Map.{batches_to, folded, value_at}
use Rattle.st_fold.specs.Reading.{plain, span_of, version_of}
use Rattle.st_key.specs.Parts.{greatest}
use Rattle.st_key.specs.Spans.{Span, all_keys, key_less, within}
use Rattle.st_model.specs.Reply.{Reply, found, first_unreadable, not_yet, reply, reply_unless, too_old, wrong_shard}
use Rattle.st_model.specs.Session.{answer_to}
use Rattle.st_model.specs.State.{State}
use Rattle.st_mutation.specs.Effect.{value_by_batch}
use Rattle.st_mutation.specs.declared.batch.Batch.{Batch}
use Rattle.st_session.specs.Asking.{Asking, IsOfUsers}
use Rattle.st_session.specs.Polling.{HasShortPairs, IsFinished, IsLooked, IsPolled, IsSearched, told}
use Rattle.st_session.specs.Logs.{AreShort}
use Rattle.st_session.specs.Seen.{IsFoundIn, IsMapOf, value_in}
use Rattle.st_session.specs.declared.poll.Looked.{Looked}
use Rattle.st_session.specs.declared.poll.Looked.TheVariants as looked
use Rattle.st_session.specs.declared.poll.Poll.{Poll}
use Rattle.st_session.specs.declared.poll.Poll.TheVariants as poll
use Rattle.st_session.proofs.Lengths.{Stays, short-in}
use Rattle.st_shards.specs.Unserved.{beyond, first_unserved, or_beyond}

-- of users' keys, the first that isn't served is the first that isn't readable
unserved-is : (o : Option (List ℕ)) (span : Span) → key_less all_keys.end span.end ≡ false → or_beyond span o ≡ o
unserved-is (Some key) span users = refl
unserved-is None span users = ap (λ (t : Bool). cond t (Some (greatest all_keys.end span.begin)) None) users

module _ (log : List Batch) (state : State) (ask : Ask) where
  abbrev by-tests : Bool → Bool → Option (List ℕ) → Reply
  by-tests old new key =
      cond old (too_old state.oldest) (cond new (not_yet state.newest) (reply_unless key (plain (folded log (version_of ask)) ask)))

  pub reply-too_old : version_of ask < state.oldest → reply log state ask ≡ too_old state.oldest
  reply-too_old old = ap (λ (t : Bool). by-tests t (nat_lt state.newest (version_of ask)) (first_unreadable state.pieces (span_of ask))) (le-leb (suc (version_of ask)) state.oldest (omega arith))

  pub reply-not_yet : state.oldest ≤ version_of ask → state.newest < version_of ask → reply log state ask ≡ not_yet state.newest
  reply-not_yet old new = λ i. by-tests (lt-leb (suc (version_of ask)) state.oldest (omega arith) i) (le-leb (suc state.newest) (version_of ask) (omega arith) i) (first_unreadable state.pieces (span_of ask))

  pub reply-served : state.oldest ≤ version_of ask → version_of ask ≤ state.newest → (key : Option (List ℕ)) → IsOfUsers ask → first_unserved state.pieces (span_of ask) ≡ key
      → reply log state ask ≡ reply_unless key (plain (folded log (version_of ask)) ask)
  reply-served old new key users is = λ i.
      by-tests (lt-leb (suc (version_of ask)) state.oldest (omega arith) i) (lt-leb (suc state.newest) (version_of ask) (omega arith) i)
      ((sym (unserved-is (first_unreadable state.pieces (span_of ask)) (span_of ask) users) ∙ is) i)

module _ (log : List Batch) (state : State) (asking : Asking) where
  abbrev answer : Reply → Option Answer
  answer given = answer_to asking.patience (length asking.places + 1) given

  pub told-too_old : (oldest : ℕ) → (version_of asking.request.ask < state.oldest) × (oldest ≡ state.oldest) → told log state asking ≡ Some (TooOld oldest)
  told-too_old oldest is = ap answer (reply-too_old log state asking.request.ask is.0) ∙ ap (λ (o : ℕ). Some (TooOld o)) (sym is.1)

  pub told-wrong : (at : List ℕ) → IsOfUsers asking.request.ask
      → (state.oldest ≤ version_of asking.request.ask) × (version_of asking.request.ask ≤ state.newest) × (first_unserved state.pieces (span_of asking.request.ask) ≡ Some at)
      → told log state asking ≡ Some (WrongShard at)
  told-wrong at users is = ap answer (reply-served log state asking.request.ask is.0 is.1 (Some at) users is.2)

  pub told-waiting : (state.oldest ≤ version_of asking.request.ask) × (state.newest < version_of asking.request.ask)
      → told log state asking ≡ cond (length asking.places + 1 == asking.patience) (Some (FutureVersion state.newest (length asking.places + 1))) None
  told-waiting is = ap answer (reply-not_yet log state asking.request.ask is.0 is.1)

  pub told-found : (answered : Answer) → reply log state asking.request.ask ≡ found answered → told log state asking ≡ Some answered
  told-found answered is = ap answer is

pub replied-found : (log : List Batch) (state : State) (ask : Ask) → IsOfUsers ask → IsReadable state (span_of ask) (version_of ask)
    → reply log state ask ≡ found (plain (folded log (version_of ask)) ask)
replied-found log state ask users readable = reply-served log state ask readable.oldest readable.newest None users readable.served

-- ---- looks and polls

same-number : (a b : ℕ) → (a == b) ≡ true → a ≡ b
same-number a b is = eqb-true a b is

-- where the version hasn't come, a look waits, or gives it up at the last poll
pub waited : (log : List Batch) (state : State) (asking : Asking) (newest : ℕ)
    → (state.oldest ≤ version_of asking.request.ask) × (state.newest < version_of asking.request.ask) × (newest ≡ state.newest)
    → IsLooked log state asking (cond (length asking.places + 1 == asking.patience) (looked.Done (FutureVersion newest asking.patience)) (looked.Pending newest))
waited log state asking newest is = by_test (length asking.places + 1 == asking.patience) refl
  where
    told-is : told log state asking ≡ cond (length asking.places + 1 == asking.patience) (Some (FutureVersion state.newest (length asking.places + 1))) None
    told-is = told-waiting log state asking (is.0, is.1)

    by_test : (t : Bool) → (length asking.places + 1 == asking.patience) ≡ t → IsLooked log state asking (cond t (looked.Done (FutureVersion newest asking.patience)) (looked.Pending newest))
    by_test true last =
        told-is ∙ ap (λ (t : Bool). cond t (Some (FutureVersion state.newest (length asking.places + 1))) None) last
        ∙ (λ i. Some (FutureVersion (sym is.2 i) (same-number (length asking.places + 1) asking.patience last i)))
    by_test false more =
        (told-is ∙ ap (λ (t : Bool). cond t (Some (FutureVersion state.newest (length asking.places + 1))) None) more, is.2)

-- a search that found the answer in the view found that of the poll
pub searched : (log : List Batch) (state : State) (asking : Asking) (view : View) (answered : Answer) → IsSearched log state asking.request.ask view
    → IsFoundIn view asking.request.ask answered → told log state asking ≡ Some answered
searched log state asking view answered looks found-in =
    told-found log state asking _ looks.replied ∙ ap (λ (a : Answer). Some a) (sym (found-in (folded log (version_of asking.request.ask)) looks.values))

-- a look and the rest of its poll are a poll
pub finished : (log : List Batch) (state : State) (asking : Asking) (look : Looked) (result : Poll) → IsLooked log state asking look
    → IsFinished asking.request.ask look result → IsPolled log state asking result
finished log state asking (looked.Pending newest) result looks is = subst (IsPolled log state asking) (sym is) looks
finished log state asking (looked.Done given) result looks is = subst (IsPolled log state asking) (sym is) looks
finished log state asking (looked.Search view) (poll.Pending newest) looks is = absurd is
finished log state asking (looked.Search view) (poll.Done given) looks is = searched log state asking view given looks is

pub short-pairs : (log : List Batch) (state : State) (asking : Asking) (look : Looked) → IsLooked log state asking look → HasShortPairs asking.request.ask look
short-pairs log state asking (looked.Pending newest) looks = tt
short-pairs log state asking (looked.Done given) looks = tt
short-pairs log state asking (looked.Search view) looks = looks.short

-- a view that a board gives is one to search
pub searchable : Stays → ((log : List Batch) (version : ℕ) (key : List ℕ) → value_at (folded log version) key ≡ fold (value_by_batch key) None (batches_to version log))
    → ((log : List Batch) (version : ℕ) → IsTrue (is_sorted (slice_cmp nat_cmp) (folded log version)))
    → (log : List Batch) → AreShort log → (state : State) (ask : Ask) → IsOfUsers ask → (view : View) → IsReadable state (span_of ask) (version_of ask)
    → ((key : List ℕ) → within (span_of ask) key ≡ true → value_in view key ≡ value_of log (version_of ask) key) → IsSearched log state ask view
searchable stays alone ordered log short state ask users view readable values = record {
  replied = replied-found log state ask users readable;
  values = map;
  short = short-in stays alone log short (version_of ask) (value_in view) (span_of ask) map;
}
  where
    map : IsMapOf (value_in view) (span_of ask) (folded log (version_of ask))
    map = record { sorted = ordered log (version_of ask); values = values }
