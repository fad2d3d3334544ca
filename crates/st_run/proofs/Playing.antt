-- A script that is played is one that is served.
use Rattle.std.proofs.Common.{◌≡◌, ◌≤◌, ◌<◌, ◌^◌, ℕ, true, false, List, [], ◌∷◌, Option, Some, None, IfSome, arith}
use Rattle.std.specs.List.{AllByRecursion}
use Rattle.st_board.specs.Logs.{HasShortKey}
use Rattle.st_fold.specs.Plain.{IsLast, IsOfReader, IsPlainBatch}
use Rattle.st_fold.specs.Reading.{is_watch}
use Rattle.st_fold.specs.declared.plan.LifePlan.{LifePlan}
use Rattle.st_fold.specs.declared.plan.Script.{Script}
use Rattle.st_fold.specs.declared.request.Ask.{Ask}
use Rattle.st_fold.specs.declared.request.Ask.TheVariants as ask
use Rattle.st_fold.specs.declared.request.Request.{Request}
use Rattle.st_life.specs.Readers.{IsAskable}
use Rattle.st_mutation.specs.declared.batch.Batch.{Batch}
use Rattle.st_mutation.specs.declared.batch.Mutation.{Mutation}
use Rattle.st_mutation.specs.declared.batch.Mutation.TheVariants.{Set, Clear, Atomic}
use Rattle.st_script.specs.Fields.{max_calls, max_version}
use Rattle.st_script.specs.Playable.{AsksShortKey, AsksUsers, ChangesShortKey, IsPlayable, IsPlayableLife}
use Rattle.st_session.specs.Asking.{HasShortKey as IsShort}
use Rattle.st_run.specs.Lived.{IsLivable}
use Rattle.st_run.specs.Ran.{IsServable}

all-map : {X : Type 0} (P Q : X → Type 0) → ((x : X) → P x → Q x) → (xs : List X) → AllByRecursion P xs → AllByRecursion Q xs
all-map P Q f [] all = tt
all-map P Q f (x ∷ xs) all = (f x all.0, all-map P Q f xs all.1)

all-both : {X : Type 0} (P Q R : X → Type 0) → ((x : X) → P x → Q x → R x) → (xs : List X) → AllByRecursion P xs → AllByRecursion Q xs → AllByRecursion R xs
all-both P Q R f [] one other = tt
all-both P Q R f (x ∷ xs) one other = (f x one.0 other.0, all-both P Q R f xs one.1 other.1)

short-key : (mutation : Mutation) → ChangesShortKey mutation → HasShortKey mutation
short-key (Set key value) short = short
short-key (Clear range) short = tt
short-key (Atomic op key operand) short = short

short-ask : (asked : Ask) → AsksShortKey asked → IsShort asked
short-ask (ask.Get key version) short = short
short-ask (ask.Rows range rows bytes reverse version) short = tt
short-ask (ask.Select key or_equal offset range version) short = tt
short-ask (ask.Watch key value) short = short

askable : (request : Request) → is_watch request.ask ≡ false → AsksUsers request → IsAskable request
askable request versioned users = record { versioned = versioned; users = users.users; short = short-ask request.ask users.short }

livable : (plan : LifePlan) → IsPlayableLife plan → IsLivable plan
livable plan playable = record {
  servable = record { asks = playable.asks; lasts = playable.lasts; dos = playable.dos; no_fails = playable.no_fails };
  askable = record {
    asks = all-both IsOfReader AsksUsers IsAskable (λ request of users. askable request of.versioned users) plan.asks playable.asks playable.asks_users;
    lasts = all-both IsLast AsksUsers IsAskable (λ request of users. askable request of.versioned users) plan.lasts playable.lasts playable.lasts_users;
  };
  countable = few plan.kill playable.kill;
}
  where
    few : (kill : Option (ℕ × ℕ)) → IfSome kill (λ kill. (kill.0 ≤ max_calls) × (kill.1 < 2 ^ 64)) → IfSome kill (λ kill. kill.0 < 2 ^ 63)
    few None bound = tt
    few (Some kill) bound = let most = bound.0 in omega (arith, most)

pub servable : (script : Script) → IsPlayable script → IsServable script
servable script playable = record {
  served = record {
    patient = playable.settings.least_patience;
    swap = let most = playable.settings.most_swap in omega (arith, most);
    limit = let most = playable.settings.most_limit in omega (arith, most);
    all = playable.own;
    rises = playable.rises;
    no_moves = all-map (IsPlainBatch max_version) (λ (batch : Batch). batch.moves ≡ []) (λ batch plain. plain.no_moves) script.log playable.batches;
    short = all-map (λ (batch : Batch). AllByRecursion ChangesShortKey batch.mutations) (λ batch. AllByRecursion HasShortKey batch.mutations)
        (λ batch short. all-map ChangesShortKey HasShortKey short-key batch.mutations short) script.log playable.short;
  };
  lives = all-map IsPlayableLife IsLivable livable script.lives playable.lives;
}
