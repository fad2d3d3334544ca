-- What a crash may leave while calls of a disk follow one another.
use Rattle.std.proofs.Common.{◌≡◌, ◌+◌, ◌≤◌, ◌⊎◌, ⊎_elim, inl, inr, ℕ, true, false, if◌then◌else◌, List, [], ◌∷◌, ◌++◌, length, drop, Option, Some, None, subst, arith, length-append}
use Rattle.std.proofs.lemmas.List.{drop-append-le, drop_all}
use Rattle.st_disk.specs.FileState.{has_unsynced}
use Rattle.st_disk.specs.History.{Files, FileStates, History, of_file, moment, CanLeave, MayLeave, MayHaveLeft, LeftSince, after_write, after_part, after_sync, counted}

-- A crash at any moment from the old history to the new one leaves files with this property.
pub record LeavesOnly (old new : History) (P : Files → Type 0) : Type 0 where
  pub later : moment old ≤ moment new
  pub each : (images : Files) → LeftSince new (moment old) images → P images
  -- for a run that began earlier
  pub before : (from : ℕ) (images : Files) → from ≤ moment old → LeftSince new from images → LeftSince old from images ⊎ P images

-- the same of a disk that may not tell its history, and then goes on not telling
abbrev pub ToldLeavesOnly : Option History → Option History → (Files → Type 0) → Type 0
ToldLeavesOnly None new P = new ≡ None
ToldLeavesOnly (Some old) None P = ⊥
ToldLeavesOnly (Some old) (Some new) P = LeavesOnly old new P

-- One history goes on to another: a crash since some moment may have left what it might have left before, or what it may
-- leave now.
pub record GoesOn (old new : History) : Type 0 where
  pub later : moment old ≤ moment new
  pub since : (from : ℕ) (images : Files) → from ≤ moment old → LeftSince new from images → LeftSince old from images ⊎ MayLeave new images

left-push : (past : List FileStates) (files : FileStates) (images : Files) → MayHaveLeft (past ++ files ∷ []) images → MayHaveLeft past images ⊎ CanLeave files images
left-push [] files images (inl here) = inr here
left-push [] files images (inr none) = absurd none
left-push (state ∷ past) files images (inl here) = inl (inl here)
left-push (state ∷ past) files images (inr there) = ⊎_elim (λ left. inl (inr left)) (λ last. inr last) (left-push past files images there)

pub goes_on-push : (h : History) (files : FileStates) (made in_part : ℕ) → GoesOn h (record h { now = files; past = h.past ++ h.now ∷ []; made = made; in_part = in_part })
goes_on-push h files made in_part = record {
  later = omega (arith, length-append h.past (h.now ∷ []));
  since = λ from images le left. ⊎_elim (λ now. inr now) (λ had.
      inl (⊎_elim (λ past. inr past) (λ last. inl last)
      (left-push (drop from h.past) h.now images (subst (λ (l : List FileStates). MayHaveLeft l images) (drop-append-le from h.past (h.now ∷ []) le) had)))) left;
}

pub goes_on-same : (h : History) (files : FileStates) (made : ℕ) → GoesOn h (record h { now = files; past = h.past; made = made })
goes_on-same h files made = record {
  later = omega arith;
  since = λ from images le left. ⊎_elim (λ now. inr now) (λ had. inl (inr had)) left;
}

pub goes_on-write : (file at : ℕ) (bytes : List ℕ) (h : History) → GoesOn h (after_write file at bytes h)
goes_on-write file at bytes h = goes_on-push h (after_write file at bytes h).now h.made h.in_part

pub goes_on-part : (file at : ℕ) (bytes : List ℕ) (h : History) → GoesOn h (after_part file at bytes h)
goes_on-part file at bytes h = goes_on-push h (after_write file at bytes h).now h.made (h.in_part + 1)

pub goes_on-write_counted : (file at : ℕ) (bytes : List ℕ) (h : History) → GoesOn h (counted (after_write file at bytes h))
goes_on-write_counted file at bytes h = goes_on-push h (after_write file at bytes h).now (counted h).made h.in_part

pub goes_on-sync : (file : ℕ) (h : History) → GoesOn h (after_sync file h)
goes_on-sync file h = elim (has_unsynced (of_file file h.now)) as (λ b. GoesOn h (record h { now = (after_sync file h).now; past = if b then h.past ++ h.now ∷ [] else h.past })) [
  | true ↦ goes_on-push h (after_sync file h).now h.made h.in_part
  | false ↦ goes_on-same h (after_sync file h).now h.made
]

pub goes_on-sync_counted : (file : ℕ) (h : History) → GoesOn h (counted (after_sync file h))
goes_on-sync_counted file h = elim (has_unsynced (of_file file h.now)) as (λ b. GoesOn h (record h { now = (after_sync file h).now; past = if b then h.past ++ h.now ∷ [] else h.past; made = (counted h).made })) [
  | true ↦ goes_on-push h (after_sync file h).now (counted h).made h.in_part
  | false ↦ goes_on-same h (after_sync file h).now (counted h).made
]

-- before the first call
pub started : (h : History) (P : Files → Type 0) → ((images : Files) → MayLeave h images → P images) → LeavesOnly h h P
started h P here = record {
  later = omega arith;
  each = λ images left. ⊎_elim (here images) (λ had. absurd (subst (λ (l : List FileStates). MayHaveLeft l images) (drop_all (length h.past) h.past (omega arith)) had)) left;
  before = λ from images le left. inl left;
}

-- one call more
pub goes_on : (old mid new : History) (P : Files → Type 0) → LeavesOnly old mid P → GoesOn mid new → ((images : Files) → MayLeave new images → P images) → LeavesOnly old new P
goes_on old mid new P so_far step here = record {
  later = omega (arith, so_far.later, step.later);
  each = λ images left. ⊎_elim (so_far.each images) (here images) (step.since (moment old) images so_far.later left);
  before = λ from images le left. ⊎_elim (so_far.before from images le) (λ now. inr (here images now)) (step.since from images (omega (arith, le, so_far.later)) left);
}

-- one run after another
pub joined : (old mid new : History) (P : Files → Type 0) → LeavesOnly old mid P → LeavesOnly mid new P → LeavesOnly old new P
joined old mid new P first second = record {
  later = omega (arith, first.later, second.later);
  each = λ images left. ⊎_elim (first.each images) (λ has. has) (second.before (moment old) images first.later left);
  before = λ from images le left. ⊎_elim (first.before from images le) (λ has. inr has) (second.before from images (omega (arith, le, first.later)) left);
}

-- a weaker property
pub weaker : (old new : History) (P Q : Files → Type 0) → LeavesOnly old new P → ((images : Files) → P images → Q images) → LeavesOnly old new Q
weaker old new P Q only weaken = record {
  later = only.later;
  each = λ images left. weaken images (only.each images left);
  before = λ from images le left. ⊎_elim (λ was. inl was) (λ has. inr (weaken images has)) (only.before from images le left);
}
