-- Calls of a disk, one after another: what they leave where each is carried out, and where one of them fails.
use Rattle.std.proofs.Common.{◌≡◌, ◌<◌, ◌+◌, ◌^◌, ℕ, List, [], ◌∷◌, ◌++◌, length, Option, Some, None, inl, ⊎_elim, refl, sym, ◌∙◌, ap, subst, arith, length-append}
use Rattle.std.specs.Option.{option_map}
use Rattle.std.proofs.lemmas.List.{append_assoc}
use Rattle.std.proofs.lemmas.Option.{same_Some}
use Rattle.st_disk.specs.History.{Files, History, seen, counted, after_part, IsPartlyWritten}
use Rattle.st_disk.specs.Recorded.{Call, write, sync, after_call}

-- the history behind calls that were carried out, the first of them first, each of them counted
abbrev pub made : List Call → History → History
made [] h = h
made (call ∷ calls) h = made calls (counted (after_call call h))

-- A call failed: nothing of it was done, or a write was done in part.
abbrev pub HasFailed : Call → History → History → Type 0
HasFailed (write file at bytes) h new = IsPartlyWritten file at bytes (Some h) (Some new)
HasFailed (sync file) h new = new ≡ h

-- Some of the calls were carried out, and the next one of them wasn't.
pub record StoppedIn (calls : List Call) (old new : History) : Type 0 where
  pub carried : List Call
  pub failed : Call
  pub rest : List Call
  pub parts : calls ≡ carried ++ failed ∷ rest
  pub left : HasFailed failed (made carried old) new

-- the same of a disk that may not tell its history, and then goes on not telling; the calls are those for what it reads as
abbrev pub ToldStoppedIn : (Files → List Call) → Option History → Option History → Type 0
ToldStoppedIn calls None new = new ≡ None
ToldStoppedIn calls (Some old) None = ⊥
ToldStoppedIn calls (Some old) (Some new) = StoppedIn (calls (seen old)) old new

-- some calls, and then others
pub made-append : (first second : List Call) (h : History) → made (first ++ second) h ≡ made second (made first h)
made-append [] second h = refl
made-append (call ∷ calls) second h = made-append calls second (counted (after_call call h))

-- a call leaves the numbers of a history to the count
same-numbers : (call : Call) (h : History) → ((after_call call h).made ≡ h.made) × ((after_call call h).passes ≡ h.passes) × ((after_call call h).in_part ≡ h.in_part)
same-numbers (write file at bytes) h = (refl, refl, refl)
same-numbers (sync file) h = (refl, refl, refl)

-- each of the calls is counted
pub made-count : (calls : List Call) (h : History) → h.made + length calls < 2 ^ 64 → (made calls h).made ≡ h.made + length calls
made-count [] h few = omega arith
made-count (call ∷ calls) h few =
    let same = (same-numbers call h).0 in
    let rest = made-count calls (counted (after_call call h)) (omega (arith, same, few)) in
    omega (arith, same, rest, few)

pub made-passes : (calls : List Call) (h : History) → (made calls h).passes ≡ h.passes
made-passes [] h = refl
made-passes (call ∷ calls) h = made-passes calls (counted (after_call call h)) ∙ (same-numbers call h).1

pub made-in_part : (calls : List Call) (h : History) → (made calls h).in_part ≡ h.in_part
made-in_part [] h = refl
made-in_part (call ∷ calls) h = made-in_part calls (counted (after_call call h)) ∙ (same-numbers call h).2

failed-numbers : (call : Call) (h new : History) → HasFailed call h new → (new.made ≡ h.made) × (new.passes ≡ h.passes)
failed-numbers (write file at bytes) h new failed =
    ⊎_elim
    (λ same. (ap (λ (n : History). n.made) (same_Some new h same), ap (λ (n : History). n.passes) (same_Some new h same)))
    (λ part. let is = same_Some new (after_part file at part.0 h) part.2 in (ap (λ (n : History). n.made) is, ap (λ (n : History). n.passes) is))
    failed
failed-numbers (sync file) h new failed = (ap (λ (n : History). n.made) failed, ap (λ (n : History). n.passes) failed)

-- those that were carried out are counted, and they are fewer than all
pub stopped-count : (calls : List Call) (old new : History) → (stopped : StoppedIn calls old new) → old.made + length calls < 2 ^ 64
    → (length stopped.carried < length calls) × (new.made ≡ old.made + length stopped.carried)
stopped-count calls old new stopped few =
    let all = ap (λ (l : List Call). length l) stopped.parts in
    let both = length-append stopped.carried (stopped.failed ∷ stopped.rest) in
    let fewer : length stopped.carried < length calls = omega (arith, all, both) in (
      fewer,
      (failed-numbers stopped.failed (made stopped.carried old) new stopped.left).0 ∙ made-count stopped.carried old (omega (arith, fewer, few)),
    )

pub stopped-passes : (calls : List Call) (old new : History) → StoppedIn calls old new → new.passes ≡ old.passes
stopped-passes calls old new stopped =
    (failed-numbers stopped.failed (made stopped.carried old) new stopped.left).1 ∙ made-passes stopped.carried old

-- where no write was done in part, what is left is what the calls left that were carried out
failed-whole : (call : Call) (h new : History) → HasFailed call h new → new.in_part ≡ h.in_part → new ≡ h
failed-whole (write file at bytes) h new failed same =
    ⊎_elim
    (λ none. same_Some new h none)
    (λ part. let more : new.in_part ≡ h.in_part + 1 = ap (λ (n : History). n.in_part) (same_Some new (after_part file at part.0 h) part.2) in absurd (omega (arith, more, same)))
    failed
failed-whole (sync file) h new failed same = failed

pub stopped-whole : (calls : List Call) (old new : History) → (stopped : StoppedIn calls old new) → new.in_part ≡ old.in_part → new ≡ made stopped.carried old
stopped-whole calls old new stopped same =
    failed-whole stopped.failed (made stopped.carried old) new stopped.left (same ∙ sym (made-in_part stopped.carried old))

-- a list was cut short in its first part
pub stopped-first : (first second : List Call) (old new : History) → StoppedIn first old new → StoppedIn (first ++ second) old new
stopped-first first second old new stopped = record {
  carried = stopped.carried;
  failed = stopped.failed;
  rest = stopped.rest ++ second;
  parts = ap (λ (l : List Call). l ++ second) stopped.parts ∙ append_assoc stopped.carried (stopped.failed ∷ stopped.rest) second;
  left = stopped.left;
}

-- or behind it
pub stopped-second : (first second : List Call) (old new : History) → StoppedIn second (made first old) new → StoppedIn (first ++ second) old new
stopped-second first second old new stopped = record {
  carried = first ++ stopped.carried;
  failed = stopped.failed;
  rest = stopped.rest;
  parts = ap (λ (l : List Call). first ++ l) stopped.parts ∙ sym (append_assoc first stopped.carried (stopped.failed ∷ stopped.rest));
  left = subst (λ (h : History). HasFailed stopped.failed h new) (sym (made-append first stopped.carried old)) stopped.left;
}

-- nothing of a call was done
failed-none : (call : Call) (h : History) → HasFailed call h h
failed-none (write file at bytes) h = inl refl
failed-none (sync file) h = refl

-- The calls of a disk that may not tell its history: none was carried out, or these, and nothing of the next one was done.
pub told_stopped-none : (call : Call) (calls : List Call) (told new : Option History) → new ≡ told → ToldStoppedIn (λ _. call ∷ calls) told new
told_stopped-none call calls None new same = same
told_stopped-none call calls (Some h) new same =
    subst (λ (n : Option History). ToldStoppedIn (λ _. call ∷ calls) (Some h) n) (sym same) (record { carried = []; failed = call; rest = calls; parts = refl; left = failed-none call h })

pub told_stopped-at : (carried : List Call) (call : Call) (calls : List Call) (told new : Option History) → new ≡ option_map (made carried) told → ToldStoppedIn (λ _. carried ++ call ∷ calls) told new
told_stopped-at carried call calls None new is = is
told_stopped-at carried call calls (Some h) new is =
    subst (λ (n : Option History). ToldStoppedIn (λ _. carried ++ call ∷ calls) (Some h) n) (sym is) (record { carried = carried; failed = call; rest = calls; parts = refl; left = failed-none call (made carried h) })

-- or the first one is a write that was done in part
pub told_stopped-write : (file at : ℕ) (bytes : List ℕ) (calls : List Call) (told new : Option History) → IsPartlyWritten file at bytes told new → ToldStoppedIn (λ _. write file at bytes ∷ calls) told new
told_stopped-write file at bytes calls None new partly = partly
told_stopped-write file at bytes calls (Some h) None partly = ⊎_elim (λ same. cc (same)) (λ part. cc (part.2)) partly
told_stopped-write file at bytes calls (Some h) (Some new) partly = record { carried = []; failed = write file at bytes; rest = calls; parts = refl; left = partly }

-- two lists, of which the first was cut short, or the second behind it
pub told_stopped-first : (first second : Files → List Call) (told new : Option History) → ToldStoppedIn first told new → ToldStoppedIn (λ files. first files ++ second files) told new
told_stopped-first first second None new stopped = stopped
told_stopped-first first second (Some h) None stopped = stopped
told_stopped-first first second (Some h) (Some new) stopped = stopped-first (first (seen h)) (second (seen h)) h new stopped

pub told_stopped-second : (first : Files → List Call) (second : List Call) (told mid new : Option History) → mid ≡ option_map (λ h. made (first (seen h)) h) told → ToldStoppedIn (λ _. second) mid new
    → ToldStoppedIn (λ files. first files ++ second) told new
told_stopped-second first second None mid new is stopped = subst (λ (m : Option History). ToldStoppedIn (λ _. second) m new) is stopped
told_stopped-second first second (Some h) mid new is stopped = behind new (subst (λ (m : Option History). ToldStoppedIn (λ _. second) m new) is stopped)
  where
    behind : (new : Option History) → ToldStoppedIn (λ _. second) (Some (made (first (seen h)) h)) new → ToldStoppedIn (λ files. first files ++ second) (Some h) new
    behind None stopped = stopped
    behind (Some new) stopped = stopped-second (first (seen h)) second h new stopped
