-- What one write and a sync of it leave of a synced disk.
use Rattle.std.proofs.Common.{◌≡◌, ◌≤◌, ◌+◌, ◌-◌, ℕ, zero, suc, List, length, drop, Option, Some, None, ⊎_elim, refl, sym, ◌∙◌, ap, subst, arith}
use Rattle.std.specs.Option.{option_map, ForSome}
use Rattle.std.proofs.lemmas.List.{drop-drop}
use Rattle.st_disk.specs.FileState.{FileState, IsImage, settled, with_bytes, overwritten}
use Rattle.st_disk.specs.Images.{IsTorn, image-settled, image-with_bytes, image-seen, sound-with_bytes, sound-settled}
use Rattle.st_disk.specs.History.{History, Files, MayLeave, of_file, with_file, seen, after_write, after_sync, after_part, counted, IsPartlyWritten}
use Rattle.st_disk.specs.Moments.{LeavesOnly, ToldLeavesOnly, started, goes_on, goes_on-part, goes_on-write_counted, goes_on-sync_counted}
use Rattle.st_queue.specs.Place.{other_file}
use Rattle.st_queue.specs.Writing.{IsSynced, IsTornAt, LeavesTorn, after_put, beside}

-- a synced disk has one image
pub image-synced : (h : History) → IsSynced h → (images : Files) → MayLeave h images → images ≡ seen h
image-synced h synced images may =
    let here = subst (λ (now : FileState × FileState). IsImage now.0 images.0 × IsImage now.1 images.1) synced may in
    let first = image-settled (seen h).0 images.0 here.0 in
    let second = image-settled (seen h).1 images.1 here.1 in
    λ i. (first i, second i)

pub seen-put : (file at : ℕ) (bytes : List ℕ) (h : History) → seen (after_put file at bytes h) ≡ with_file file (overwritten at bytes (of_file file (seen h))) (seen h)
unfolding after_put
seen-put zero at bytes h = refl
seen-put (suc file) at bytes h = refl

pub beside-with : {X : Type 0} (file : ℕ) (x : X) (both : X × X) → of_file (other_file file) (with_file file x both) ≡ of_file (other_file file) both
beside-with zero x both = refl
beside-with (suc file) x both = refl

-- the other file reads as before
pub beside-put : (file at : ℕ) (bytes : List ℕ) (told : Option History) → beside file (option_map (after_put file at bytes) told) ≡ beside file told
beside-put file at bytes None = refl
beside-put file at bytes (Some h) = ap (λ (f : Files). Some (of_file (other_file file) f)) (seen-put file at bytes h) ∙ ap (λ (l : List ℕ). Some l) (beside-with file _ (seen h))

pub synced-put : (file at : ℕ) (bytes : List ℕ) (h : History) → IsSynced h → IsSynced (after_put file at bytes h)
unfolding after_put
synced-put zero at bytes h synced = λ i. (settled (overwritten at bytes h.now.0.seen), (synced i).1)
synced-put (suc file) at bytes h synced = λ i. ((synced i).0, settled (overwritten at bytes h.now.1.seen))

-- a write that wasn't begun, one that was cut short sooner, and one that is whole
torn-none : (at count : ℕ) (old : List ℕ) → at ≤ length old → IsTorn at count old old
torn-none at count old inside = record { before = refl; behind = refl; no_shorter = omega arith; no_longer = omega arith }

torn-wider : (at part count : ℕ) (old image : List ℕ) → part ≤ count → IsTorn at part old image → IsTorn at count old image
torn-wider at part count old image le torn =
    let far : (l : List ℕ) → drop (at + count) l ≡ drop (count - part) (drop (at + part) l) = λ l. let e : at + part + (count - part) ≡ at + count = omega arith in sym (drop-drop (count - part) (at + part) l ∙ ap (λ (n : ℕ). drop n l) e) in
    record {
      before = torn.before;
      behind = far image ∙ ap (λ (l : List ℕ). drop (count - part) l) torn.behind ∙ sym (far old);
      no_shorter = torn.no_shorter;
      no_longer = omega (arith, torn.no_longer);
    }

pub torn-whole : (at : ℕ) (bytes old : List ℕ) → at ≤ length old → IsTorn at (length bytes) old (overwritten at bytes old)
torn-whole at bytes old inside = image-with_bytes at bytes old (overwritten at bytes old) inside (image-seen (with_bytes at bytes (settled old)) (sound-with_bytes at bytes (settled old) (sound-settled old)))

module _ (file at : ℕ) (bytes : List ℕ) where
  abbrev Torn : History → Files → Type 0
  Torn h images = IsTornAt file at (length bytes) (seen h) images

  torn-here : (h : History) → IsSynced h → at ≤ length (of_file file (seen h)) → (images : Files) → MayLeave h images → Torn h images
  torn-here h synced inside images may =
      subst (λ (i : Files). Torn h i) (sym (image-synced h synced images may)) (record { torn = torn-none at (length bytes) (of_file file (seen h)) inside; other = same file (seen h) })
    where
      same : (file : ℕ) (files : Files) → files ≡ with_file file (of_file file files) files
      same zero files = refl
      same (suc file) files = refl

  torn-write : (part : List ℕ) (h : History) → IsSynced h → at ≤ length (of_file file (seen h)) → length part ≤ length bytes → (images : Files) → MayLeave (after_write file at part h) images → Torn h images
  torn-write part h synced inside le images may = by_file file inside may
    where
      by_file : (file : ℕ) → at ≤ length (of_file file (seen h)) → MayLeave (after_write file at part h) images → IsTornAt file at (length bytes) (seen h) images
      by_file zero inside may =
          let state : h.now.0 ≡ settled (seen h).0 = λ i. (synced i).0 in
          let other : h.now.1 ≡ settled (seen h).1 = λ i. (synced i).1 in
          let stays : images.1 ≡ (seen h).1 = image-settled (seen h).1 images.1 (subst (λ (f : FileState). IsImage f images.1) other may.1) in
          record {
            torn = torn-wider at (length part) (length bytes) (seen h).0 images.0 le (image-with_bytes at part (seen h).0 images.0 inside (subst (λ (f : FileState). IsImage (with_bytes at part f) images.0) state may.0));
            other = λ i. (images.0, stays i);
          }
      by_file (suc file) inside may =
          let state : h.now.1 ≡ settled (seen h).1 = λ i. (synced i).1 in
          let other : h.now.0 ≡ settled (seen h).0 = λ i. (synced i).0 in
          let stays : images.0 ≡ (seen h).0 = image-settled (seen h).0 images.0 (subst (λ (f : FileState). IsImage f images.0) other may.0) in
          record {
            torn = torn-wider at (length part) (length bytes) (seen h).1 images.1 le (image-with_bytes at part (seen h).1 images.1 inside (subst (λ (f : FileState). IsImage (with_bytes at part f) images.1) state may.1));
            other = λ i. (stays i, images.1);
          }

  torn-put : (h : History) → IsSynced h → at ≤ length (of_file file (seen h)) → (images : Files) → MayLeave (after_put file at bytes h) images → Torn h images
  torn-put h synced inside images may =
      let is : images ≡ with_file file (overwritten at bytes (of_file file (seen h))) (seen h) = image-synced (after_put file at bytes h) (synced-put file at bytes h synced) images may ∙ seen-put file at bytes h in
      subst (λ (i : Files). Torn h i) (sym is) (whole file (seen h) inside)
    where
      whole : (file : ℕ) (files : Files) → at ≤ length (of_file file files) → IsTornAt file at (length bytes) files (with_file file (overwritten at bytes (of_file file files)) files)
      whole zero files inside = record { torn = torn-whole at bytes files.0 inside; other = refl }
      whole (suc file) files inside = record { torn = torn-whole at bytes files.1 inside; other = refl }

  abbrev Inside : Option History → Type 0
  Inside told = ForSome told (λ h. at ≤ length (of_file file (seen h)))

  abbrev Synced : Option History → Type 0
  Synced told = ForSome told IsSynced

  begun : (h : History) → IsSynced h → at ≤ length (of_file file (seen h)) → LeavesOnly h h (Torn h)
  begun h synced inside = started h (Torn h) (torn-here h synced inside)

  pub put-none : (told new : Option History) → new ≡ told → Synced told → Inside told → ToldLeavesOnly told new (LeavesTorn file at (length bytes) told)
  put-none None new same synced inside = same
  put-none (Some h) new same synced inside =
      subst (λ (n : Option History). ToldLeavesOnly (Some h) n (Torn h)) (sym same) (begun h (synced h refl) (inside h refl))

  pub put-failed : (told new : Option History) → IsPartlyWritten file at bytes told new → Synced told → Inside told → ToldLeavesOnly told new (LeavesTorn file at (length bytes) told)
  put-failed None new partly synced inside = partly
  put-failed (Some h) new partly synced inside =
      ⊎_elim
      (λ same. put-none (Some h) new same synced inside)
      (λ written. subst (λ (n : Option History). ToldLeavesOnly (Some h) n (Torn h)) (sym written.2)
      (goes_on h h (after_part file at written.0 h) (Torn h) (begun h (synced h refl) (inside h refl)) (goes_on-part file at written.0 h) (torn-write written.0 h (synced h refl) (inside h refl) written.1)))
      partly

  only-written : (h : History) → IsSynced h → at ≤ length (of_file file (seen h)) → LeavesOnly h (counted (after_write file at bytes h)) (Torn h)
  only-written h synced inside =
      goes_on h h (counted (after_write file at bytes h)) (Torn h) (begun h synced inside) (goes_on-write_counted file at bytes h) (torn-write bytes h synced inside (omega arith))

  pub put-written : (told new : Option History) → new ≡ option_map (λ h. counted (after_write file at bytes h)) told → Synced told → Inside told → ToldLeavesOnly told new (LeavesTorn file at (length bytes) told)
  put-written None new is synced inside = is
  put-written (Some h) new is synced inside =
      subst (λ (n : Option History). ToldLeavesOnly (Some h) n (Torn h)) (sym is) (only-written h (synced h refl) (inside h refl))

  pub put-both : (told mid new : Option History) → mid ≡ option_map (λ h. counted (after_write file at bytes h)) told → new ≡ option_map (λ h. counted (after_sync file h)) mid → Synced told → Inside told
      → (new ≡ option_map (after_put file at bytes) told) × ToldLeavesOnly told new (LeavesTorn file at (length bytes) told)
  unfolding after_put
  put-both None mid new is is' synced inside =
      let none : new ≡ None = is' ∙ (λ i. option_map (λ h. counted (after_sync file h)) (is i)) in (none, none)
  put-both (Some h) mid new is is' synced inside =
      let written = counted (after_write file at bytes h) in
      let whole : new ≡ Some (after_put file at bytes h) = is' ∙ (λ i. option_map (λ h. counted (after_sync file h)) (is i)) in (
        whole,
        subst (λ (n : Option History). ToldLeavesOnly (Some h) n (Torn h)) (sym whole)
            (goes_on h written (after_put file at bytes h) (Torn h) (only-written h (synced h refl) (inside h refl)) (goes_on-sync_counted file written) (torn-put h (synced h refl) (inside h refl))),
      )
