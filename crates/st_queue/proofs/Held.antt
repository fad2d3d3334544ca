-- What a queue keeps of its disk, over each of its calls.
use Rattle.std.proofs.Common.{◌≡◌, ◌≤◌, ◌+◌, ◌^◌, ◌&&◌, ℕ, zero, suc, Bool, true, false, List, [], ◌∷◌, Option, Some, None, Result, Ok, Err, IfSome, IfErr, IsOk, IsSome, OnOk, IsErrOf, inl, refl, sym, ◌∙◌, ap, subst}
use Rattle.std.specs.Option.{option_map, ForSome}
use Rattle.std.proofs.lemmas.Option.{same_Some}
use Rattle.std.proofs.lemmas.Bool.{false≢true}
use Rattle.st_disk.specs.History.{History, Files, of_file, with_file, seen}
use Rattle.st_disk.specs.Calls.{made-append}
use Rattle.st_disk.specs.Moments.{ToldLeavesOnly, joined, started, weaker}
use Rattle.st_queue.specs.Due.{Knows, are_discarded, due_at, due_of, has_reached, is_released, last_behind, live_frames, older_beside, older_frames}
use Rattle.st_queue.specs.Frames.{is_live}
use Rattle.st_queue.specs.Mounting.{after_both, IsOutside}
use Rattle.st_queue.specs.Place.{current, current_file, is_unshut, next_file, next_generation, next_number, next_place, other_file, spent}
use Rattle.st_queue.specs.Prepared.{IsPrepared, ToldPrepared, ToldReleased, ToldUnshut}
use Rattle.st_queue.specs.Queue.{Holds, IsKept, IsReady, UnlessFailed, after_refusal, broken_by, is_due, is_due_at, with_broken, with_current, with_entered, with_prepared}
use Rattle.st_queue.specs.Reading.{Fits, IsReading}
use Rattle.st_queue.specs.Writing.{after_put, appended, frame_bytes, behind_frame, beside, entered, header_bytes, head_calls, recycled, shut_calls, shut_first, frames_now, frames_of, frame_of, told_frames, IsSettled, ToldSettled, HasFrames, HasFramesLess, HasFramesOrMore, HasLess, ToldLess, Appends}
use Rattle.st_queue.proofs.Alone.{alone-older, idle, is-current}
use Rattle.st_queue.proofs.Appends.{ok-of, settled-told}
use Rattle.st_queue.proofs.Current.{Reading}
use Rattle.st_queue.proofs.Puts.{beside-put, image-synced}
use Rattle.st_queue.proofs.Recycles.{Settled, known-of, next-fits, unspent}
use Rattle.st_queue.proofs.Shut.{live-unshut}
use Rattle.st_queue.proofs.Syncs.{both-synced}
use Rattle.st_queue.proofs.Turns.{enter-known, flags, header-known, less-same, shut-whole}
use Rattle.st_queue.specs.declared.frame.Frame.{Frame}
use Rattle.st_queue.specs.declared.frame.QueueRefusal.{QueueRefusal}
use Rattle.st_queue.specs.declared.frame.QueueRefusal.TheVariants.{Damaged, NoMemory, DiskFault, Broken, Full}
use Rattle.st_queue.specs.declared.place.Place.{Place}
use Rattle.st_queue.specs.declared.reading.Reading.{Reading as Read}
use Rattle.st_queue.specs.declared.state.State.{State}

-- a refusal before the disk is reached
pub full-appends : (place : Place) (payload : List ℕ) (told : Option History) (result : Result ℕ QueueRefusal) (long limit : ℕ) → result ≡ Err (Full long limit) → ForSome told (λ h. IsSettled h (Some place)) → Appends told told place payload result
full-appends place payload told result long limit is settled = subst (λ (r : Result ℕ QueueRefusal). Appends told told place payload r) (sym is) (record {
  calls = tt;
  frames = tt;
  settled = tt;
  stays = λ e. absurd (cc (e));
  same = λ e. absurd (cc (e));
  any_moment = leaves told settled;
})
  where
    leaves : (told : Option History) → ForSome told (λ h. IsSettled h (Some place)) → ToldLeavesOnly told told (HasFramesOrMore (frame_of place payload) told)
    leaves None settled = refl
    leaves (Some h) settled = started h (HasFramesOrMore (frame_of place payload) (Some h)) (λ images may. inl (ap frames_of (image-synced h (settled h refl).synced images may)))

abbrev pub Known : Option History → Bool × Bool → Option ℕ → Type 0
Known told unshut older = ForSome told (λ h. Knows (seen h) unshut older)

-- once a disk is mounted
pub holds-mounted : (told new : Option History) (reading : Read) (state : State) → new ≡ option_map after_both told → IfSome told (λ h. IsReading (seen h) (Ok reading)) → ForSome reading.current Fits
    → state.current ≡ reading.current → state.unshut ≡ reading.unshut → state.older ≡ reading.older → state.prepared ≡ None → state.limit ≤ 2 ^ 30 → Holds new state
holds-mounted told new reading state is reads fits current_is unshut_is older_is prepared small = record {
  small = small;
  fits = subst (λ (o : Option Place). ForSome o Fits) (sym current_is) fits;
  settled = λ unbroken. subst (λ (o : Option Place). ForSome new (λ h. IsSettled h o)) (sym current_is) (both-synced told new is reading.current (readable told reads));
  known = λ unbroken h e. subst (λ (o : Option ℕ). Knows (seen h) state.unshut o) (sym older_is) (subst (λ (u : Bool × Bool). Knows (seen h) u reading.older) (sym unshut_is) (knows told is reads h e));
  ready = λ unbroken place e. absurd (cc (prepared, e));
}
  where
    readable : (told : Option History) → IfSome told (λ h. IsReading (seen h) (Ok reading)) → IfSome told (λ h. IsOk (frames_now h) × (reading.current ≡ current (seen h)))
    readable None reads = tt
    readable (Some h) reads = (subst IsOk (sym reads.0) refl, reads.1)

    knows : (told : Option History) → new ≡ option_map after_both told → IfSome told (λ h. IsReading (seen h) (Ok reading)) → Known new reading.unshut reading.older
    knows None is reads h e = absurd (cc (is, e))
    knows (Some old) is reads h e = subst (λ (h : History). Knows (seen h) reading.unshut reading.older) (same_Some (after_both old) h (sym is ∙ e)) reads.3

-- after a refusal that reached the disk
pub holds-refused : (told new : Option History) (state : State) (refusal : QueueRefusal) → Holds told state → state.broken ≡ None → IsOutside refusal → (refusal ≡ NoMemory → new ≡ told) → (broken : Option ℕ) → broken ≡ broken_by refusal → Holds new (with_broken broken state)
holds-refused told new state (DiskFault faults) holds unbroken outside same broken is = record {
  small = holds.small;
  fits = holds.fits;
  settled = λ e. absurd (cc (is, e));
  known = λ e. absurd (cc (is, e));
  ready = λ e. absurd (cc (is, e));
}
holds-refused told new state NoMemory holds unbroken outside same broken is = subst (λ (t : Option History). Holds t (with_broken broken state)) (sym (same refl)) (record {
  small = holds.small;
  fits = holds.fits;
  settled = λ e. holds.settled unbroken;
  known = λ e. holds.known unbroken;
  ready = λ e. holds.ready unbroken;
})
holds-refused told new state (Damaged file at) holds unbroken outside same broken is = absurd outside
holds-refused told new state (Broken faults) holds unbroken outside same broken is = absurd outside
holds-refused told new state (Full long limit) holds unbroken outside same broken is = absurd outside

-- When a next file is due.
pub due-files : (told : Option History) (state : State) → Holds told state → state.broken ≡ None → ForSome told (λ h. is_due state ≡ due_of state.swap state.discarded (seen h))
due-files told state holds unbroken h e =
    ap (is_due_at state) (holds.settled unbroken h e).ends ∙ by_end (current (seen h)) (older_frames (seen h)) ((holds.known unbroken h e).older_is state.discarded)
  where
    by_end : (o : Option Place) (older : List Frame) → is_released state.older state.discarded ≡ are_discarded state.discarded older → is_due_at state o ≡ due_at state.swap state.discarded older o
    by_end None older is = refl
    by_end (Some place) older is = ap (λ (r : Bool). has_reached state.swap place && r) is

older-none : (h : History) (end : Option Place) → end ≡ None → IsSettled h end → older_frames (seen h) ≡ []
older-none h end none settled =
    let some = ok-of (frames_now h) settled.readable in
    alone-older 0 (seen h) (idle (seen h) some.0 some.1 (sym settled.ends ∙ none)).0

-- where it is due, the older frames are discarded
pub due-released : (told : Option History) (state : State) → Holds told state → state.broken ≡ None → is_due state ≡ true → ToldReleased state.discarded told
due-released told state holds unbroken due h e =
    by_end (current (seen h)) ((holds.settled unbroken h e).ends) (ap (is_due_at state) (sym (holds.settled unbroken h e).ends) ∙ due)
  where
    released : (a b : Bool) → (a && b) ≡ true → b ≡ true
    released true b both = both
    released false b both = absurd (false≢true both)

    by_end : (o : Option Place) → state.current ≡ o → is_due_at state o ≡ true → are_discarded state.discarded (older_frames (seen h)) ≡ true
    by_end None ends due = ap (are_discarded state.discarded) (older-none h state.current ends (holds.settled unbroken h e))
    by_end (Some place) ends due = sym ((holds.known unbroken h e).older_is state.discarded) ∙ released (has_reached state.swap place) (is_released state.older state.discarded) due

-- once the next file is shut
pub holds-shut : (told new : Option History) (state : State) → Holds told state → state.broken ≡ None → state.prepared ≡ None → new ≡ option_map (shut_first (next_file state.current)) told → Holds new (with_prepared None state)
holds-shut told new state holds unbroken unprepared is = record {
  small = holds.small;
  fits = holds.fits;
  settled = λ e. known-of (λ h. IsSettled h state.current) (shut_first (next_file state.current)) told new is (λ h at. (shut-whole h state.current (holds.settled unbroken h at) state.unshut state.older).settled_now);
  known = λ e. known-of (λ h. Knows (seen h) (with_file (next_file state.current) false state.unshut) None) (shut_first (next_file state.current)) told new is
      (λ h at. (shut-whole h state.current (holds.settled unbroken h at) state.unshut state.older).knows (holds.known unbroken h at));
  ready = λ e place none. absurd (cc (none));
}

-- the flag of a file tells whether it is to be shut
pub flag-of : (file : ℕ) (told : Option History) (unshut : Bool × Bool) (older : Option ℕ) → Known told unshut older → ToldUnshut file (of_file file unshut) told
flag-of zero told unshut older known h e = λ i. ((known h e).unshut_is i).0
flag-of (suc file) told unshut older known h e = λ i. ((known h e).unshut_is i).1

-- once its header is there
pub holds-headed : (told new : Option History) (state : State) → Holds told state → state.broken ≡ None → of_file (next_file state.current) state.unshut ≡ false → spent state.current ≡ None
    → new ≡ option_map (after_put (next_file state.current) 1 (header_bytes (next_generation state.current) (next_number state.current))) told → ToldSettled new state.current → ToldPrepared new (next_place state.current) → (prepared : Option Place) → prepared ≡ Some (next_place state.current) → Holds new (record state { prepared = prepared })
holds-headed told new state holds unbroken shut none is settled ready prepared prepared_is = record {
  small = holds.small;
  fits = holds.fits;
  settled = λ e. settled-told state.current new settled;
  known = λ e. known-of (λ h. Knows (seen h) state.unshut state.older) (after_put (next_file state.current) 1 (header_bytes (next_generation state.current) (next_number state.current))) told new is
      (λ h at. header-known h state.current (holds.settled unbroken h at) (sym (flag-of (next_file state.current) told state.unshut state.older (holds.known unbroken) h at) ∙ shut) (next_generation state.current) (next_number state.current) (unspent state.current none).0 (unspent state.current none).1 state.unshut state.older (holds.known unbroken h at));
  ready = λ e place at. subst (λ (p : Place). IsReady new state.current p) (same_Some (next_place state.current) place (sym prepared_is ∙ at)) (record { next = refl; fits = next-fits state.current none; prepared = ready });
}

-- once it is current
pub holds-entered : (told new : Option History) (state : State) (place : Place) → Holds told state → state.broken ≡ None → state.prepared ≡ Some place → new ≡ option_map (entered (next_file state.current)) told → ToldSettled new (Some place) → Holds new (with_entered state)
holds-entered told new state place holds unbroken prepared is settled = record {
  small = holds.small;
  fits = subst (λ (o : Option Place). ForSome o Fits) (sym prepared) (λ p e. subst Fits (same_Some place p e) (holds.ready unbroken place prepared).fits);
  settled = λ e. subst (λ (o : Option Place). ForSome new (λ h. IsSettled h o)) (sym prepared) (settled-told (Some place) new settled);
  known = λ e. known-of (λ h. Knows (seen h) (with_file (next_file state.current) true state.unshut) (last_behind state.current)) (entered (next_file state.current)) told new is
      (λ h at. enter-known h state.current (holds.settled unbroken h at)
      (let ready = holds.ready unbroken place prepared in subst (λ (p : Place). IsPrepared (of_file p.file (seen h)) p.generation p.next) ready.next (ready.prepared h at))
      state.unshut state.older (holds.known unbroken h at));
  ready = λ e p none. absurd (cc (none));
}

-- The current file with other bytes, that ends elsewhere, and the other one as it was.
known-grown : (before now : History) (place place' : Place) (unshut : Bool × Bool) (older : Option ℕ) → place'.file ≡ place.file → Some place ≡ current (seen before) → Some place' ≡ current (seen now)
    → of_file (other_file place.file) (seen now) ≡ of_file (other_file place.file) (seen before) → Knows (seen before) unshut older → Knows (seen now) unshut older
known-grown before now place place' unshut older file_is was is same known =
    let first = is-current (seen before) place was in
    let second' = is-current (seen now) place' is in
    let second_file : current_file (seen now) ≡ Some place.file = second'.file_is ∙ ap (λ (f : ℕ). Some f) file_is in
    let second_live : is_live (of_file place.file (seen now)) ≡ true = subst (λ (f : ℕ). is_live (of_file f (seen now)) ≡ true) file_is second'.live in
    record {
      unshut_is = known.unshut_is ∙ flags-same place.file (seen before) (seen now) first.live second_live same;
      older_is = λ discarded. known.older_is discarded ∙ ap (are_discarded discarded)
          (ap (older_beside (seen before)) first.file_is
          ∙ ap (live_frames (other_file place.file)) (sym same)
          ∙ sym (ap (older_beside (seen now)) second_file));
    }
  where
    flags-same : (file : ℕ) (a b : Files) → is_live (of_file file a) ≡ true → is_live (of_file file b) ≡ true → of_file (other_file file) b ≡ of_file (other_file file) a → flags a ≡ flags b
    flags-same zero a b live live' same = let e : is_unshut a.0 ≡ is_unshut b.0 = live-unshut a.0 live ∙ sym (live-unshut b.0 live') in λ i. (e i, is_unshut (sym same i))
    flags-same (suc file) a b live live' same = let e : is_unshut a.1 ≡ is_unshut b.1 = live-unshut a.1 live ∙ sym (live-unshut b.1 live') in λ i. (is_unshut (sym same i), e i)

-- what the other file tells, where it reads as before
beside-same : (file : ℕ) (told new : Option History) (h n : History) → beside file new ≡ beside file told → told ≡ Some h → new ≡ Some n → of_file (other_file file) (seen n) ≡ of_file (other_file file) (seen h)
beside-same file told new h n same was is =
    same_Some (of_file (other_file file) (seen n)) (of_file (other_file file) (seen h)) (sym (ap (beside file) is) ∙ same ∙ ap (beside file) was)

-- a disk tells its history, or doesn't, by what its other file reads as
before-of : (file : ℕ) (told new : Option History) (n : History) → beside file new ≡ beside file told → new ≡ Some n → (h : History) × (told ≡ Some h)
before-of file None new n same is = absurd (cc (same, is))
before-of file (Some h) new n same is = (h, refl)

pub beside-known : (told new : Option History) (place place' : Place) (unshut : Bool × Bool) (older : Option ℕ) → place'.file ≡ place.file → Settled told (Some place) → Settled new (Some place') → beside place.file new ≡ beside place.file told → Known told unshut older → Known new unshut older
beside-known told new place place' unshut older file_is was is same known n at =
    let before = before-of place.file told new n same at in
    known-grown before.0 n place place' unshut older file_is (was before.0 before.1).ends (is n at).ends (beside-same place.file told new before.0 n same before.1 at) (known before.0 before.1)

pub beside-appended : (place : Place) (payload : List ℕ) (told : Option History) → beside place.file (option_map (appended place payload) told) ≡ beside place.file told
unfolding appended after_put
beside-appended place payload None = refl
beside-appended place payload (Some h) =
    beside-put place.file place.gate (1 ∷ []) (Some (after_put place.file (place.gate + 1) (frame_bytes place.next payload) h))
    ∙ beside-put place.file (place.gate + 1) (frame_bytes place.next payload) (Some h)

-- once a frame is appended
pub holds-appended : (told new : Option History) (state : State) (place place' : Place) (payload : List ℕ) → Holds told state → state.broken ≡ None → state.current ≡ Some place → place' ≡ behind_frame place payload → Fits place'
    → new ≡ option_map (appended place payload) told → ToldSettled new (Some (behind_frame place payload)) → Holds new (with_current (Some place') state)
holds-appended told new state place place' payload holds unbroken current_is place_is fits is settled =
    let was : Settled told (Some place) = subst (λ (o : Option Place). ForSome told (λ h. IsSettled h o)) current_is (holds.settled unbroken) in
    let now : Settled new (Some place') = subst (λ (p : Place). Settled new (Some p)) (sym place_is) (settled-told (Some (behind_frame place payload)) new settled) in
    record {
      small = holds.small;
      fits = λ p e. subst Fits (same_Some place' p e) fits;
      settled = λ e. now;
      known = λ e. beside-known told new place place' state.unshut state.older (ap (λ (p : Place). p.file) place_is) was now (ap (beside place.file) is ∙ beside-appended place payload told) (holds.known unbroken);
      ready = λ e p none. absurd (cc (none));
    }

-- after a refusal of an append that reached the disk
pub holds-unappended : (told new : Option History) (state : State) (place : Place) (refusal : QueueRefusal) → Holds told state → state.broken ≡ None → state.current ≡ Some place → IsOutside refusal → (refusal ≡ NoMemory → ToldSettled new (Some place))
    → (refusal ≡ NoMemory → beside place.file new ≡ beside place.file told) → (broken : Option ℕ) → broken ≡ broken_by refusal → Holds new (with_broken broken state)
holds-unappended told new state place (DiskFault faults) holds unbroken current_is outside settled same broken is = record {
  small = holds.small;
  fits = holds.fits;
  settled = λ e. absurd (cc (is, e));
  known = λ e. absurd (cc (is, e));
  ready = λ e. absurd (cc (is, e));
}
holds-unappended told new state place NoMemory holds unbroken current_is outside settled same broken is =
    let was : Settled told (Some place) = subst (λ (o : Option Place). ForSome told (λ h. IsSettled h o)) current_is (holds.settled unbroken) in
    let now : Settled new (Some place) = settled-told (Some place) new (settled refl) in
    record {
      small = holds.small;
      fits = holds.fits;
      settled = λ e. subst (λ (o : Option Place). ForSome new (λ h. IsSettled h o)) (sym current_is) now;
      known = λ e. beside-known told new place place state.unshut state.older refl was now (same refl) (holds.known unbroken);
      ready = λ e p at. let ready = holds.ready unbroken p at in record {
        next = ready.next;
        fits = ready.fits;
        prepared = λ n there.
            let before = before-of place.file told new n (same refl) there in
            let file_is : other_file place.file ≡ p.file = sym (ap (λ (q : Place). q.file) ready.next ∙ ap next_file current_is) in
            let bytes_are : of_file p.file (seen before.0) ≡ of_file p.file (seen n) = subst (λ (f : ℕ). of_file f (seen before.0) ≡ of_file f (seen n)) file_is (sym (beside-same place.file told new before.0 n (same refl) before.1 there)) in
            subst (λ (l : List ℕ). IsPrepared l p.generation p.next) bytes_are (ready.prepared before.0 before.1);
      };
    }
holds-unappended told new state place (Damaged file at) holds unbroken current_is outside settled same broken is = absurd outside
holds-unappended told new state place (Broken faults) holds unbroken current_is outside settled same broken is = absurd outside
holds-unappended told new state place (Full long limit) holds unbroken current_is outside settled same broken is = absurd outside

-- with no file made ready
pub holds-unprepared : (told : Option History) (state : State) → Holds told state → Holds told (record state { prepared = None })
holds-unprepared told state holds = record {
  small = holds.small;
  fits = holds.fits;
  settled = holds.settled;
  known = holds.known;
  ready = λ e place is. absurd (cc (is));
}

-- the next file is shut, and then its header is written
pub recycled-both : (file made first : ℕ) (told mid new : Option History) (result : Result (Unit {0}) QueueRefusal) → mid ≡ option_map (shut_first file) told → OnOk result (new ≡ option_map (after_put file 1 (header_bytes made first)) mid)
    → OnOk result (new ≡ option_map (recycled file made first) told)
unfolding recycled shut_first after_put
recycled-both file made first told mid new (Err refusal) one two = tt
recycled-both file made first told mid new (Ok u) one two = two ∙ ap (λ (m : Option History). option_map (after_put file 1 (header_bytes made first)) m) one ∙ twice told
  where
    twice : (told : Option History) → option_map (after_put file 1 (header_bytes made first)) (option_map (shut_first file) told) ≡ option_map (recycled file made first) told
    twice None = refl
    twice (Some h) = ap (λ (n : History). Some n) (sym (made-append (shut_calls file (seen h)) (head_calls file made first) h))

-- the frames that are left, and then the same ones
pub less-then : (from : ℕ) (told mid new : Option History) → ToldLeavesOnly told mid (HasFramesLess from told) → ToldLess from told mid → ToldLeavesOnly mid new (HasFrames mid) → ToldLeavesOnly told new (HasFramesLess from told)
less-then from None mid new first less second = subst (λ (m : Option History). ToldLeavesOnly m new (HasFrames m)) first second
less-then from (Some h) None new first less second = absurd first
less-then from (Some h) (Some m) None first less second = second
less-then from (Some h) (Some m) (Some n) first less second =
    joined h m n (HasFramesLess from (Some h)) first (weaker m n (HasFrames (Some m)) (HasFramesLess from (Some h)) second (λ images same. subst (λ (r : Reading). HasLess from (frames_now h) r) (sym same) less))

pub less-frames : (from : ℕ) (told mid new : Option History) → ToldLess from told mid → told_frames new ≡ told_frames mid → ToldLess from told new
less-frames from told mid None less same = tt
less-frames from None mid (Some n) less same = tt
less-frames from (Some h) None (Some n) less same = absurd (cc (same))
less-frames from (Some h) (Some m) (Some n) less same = subst (λ (r : Reading). HasLess from (frames_now h) r) (sym (same_Some (frames_now n) (frames_now m) same)) less

pub less-told : (from : ℕ) (told : Option History) → ToldLess from told told
less-told from None = tt
less-told from (Some h) = less-same from (frames_now h) (frames_now h) refl

-- a fact that a refusal of the disk alone doesn't leave
pub unless-outside : (result : Result (Unit {0}) QueueRefusal) (fact : Type 0) → IfErr result IsOutside → OnOk result fact → (IsErrOf result NoMemory → fact) → UnlessFailed result fact
unless-outside (Ok u) fact outside ok wanting = ok
unless-outside (Err NoMemory) fact outside ok wanting = wanting refl
unless-outside (Err (DiskFault faults)) fact outside ok wanting = tt
unless-outside (Err (Damaged file at)) fact outside ok wanting = absurd outside
unless-outside (Err (Broken faults)) fact outside ok wanting = absurd outside
unless-outside (Err (Full long limit)) fact outside ok wanting = absurd outside

-- a state that only lost its ready file is kept over a refusal
pub kept : (refusal : QueueRefusal) (old mid new : State) → IsOutside refusal → new ≡ after_refusal refusal mid → mid.current ≡ old.current → mid.prepared ≡ None → mid.discarded ≡ old.discarded → mid.broken ≡ old.broken → mid.swap ≡ old.swap → mid.limit ≡ old.limit → IsKept refusal old new
kept (DiskFault faults) old mid new outside is current unprepared discarded broken swap limit = record {
  current = ap (λ (s : State). s.current) is ∙ current;
  unprepared = λ _. ap (λ (s : State). s.prepared) is ∙ unprepared;
  discarded = ap (λ (s : State). s.discarded) is ∙ discarded;
  broken = ap (λ (s : State). s.broken) is;
  swap = ap (λ (s : State). s.swap) is ∙ swap;
  limit = ap (λ (s : State). s.limit) is ∙ limit;
  before = λ none. absurd none;
}
kept NoMemory old mid new outside is current unprepared discarded broken swap limit = record {
  current = ap (λ (s : State). s.current) is ∙ current;
  unprepared = λ _. ap (λ (s : State). s.prepared) is ∙ unprepared;
  discarded = ap (λ (s : State). s.discarded) is ∙ discarded;
  broken = ap (λ (s : State). s.broken) is ∙ broken;
  swap = ap (λ (s : State). s.swap) is ∙ swap;
  limit = ap (λ (s : State). s.limit) is ∙ limit;
  before = λ none. absurd none;
}
kept (Damaged file at) old mid new outside is current unprepared discarded broken swap limit = absurd outside
kept (Broken faults) old mid new outside is current unprepared discarded broken swap limit = absurd outside
kept (Full long limit') old mid new outside is current unprepared discarded broken swap limit = absurd outside

pub kept-where : (result : Result (Unit {0}) QueueRefusal) (old mid new : State) → IfErr result IsOutside → IfErr result (λ refusal. new ≡ after_refusal refusal mid) → mid.current ≡ old.current → mid.prepared ≡ None → mid.discarded ≡ old.discarded → mid.broken ≡ old.broken → mid.swap ≡ old.swap → mid.limit ≡ old.limit
    → IfErr result (λ refusal. IsKept refusal old new)
kept-where (Ok u) old mid new outside is current unprepared discarded broken swap limit = tt
kept-where (Err refusal) old mid new outside is current unprepared discarded broken swap limit = kept refusal old mid new outside is current unprepared discarded broken swap limit

-- the file that was made ready is the next one
pub prepared-place : (told : Option History) (state : State) → Holds told state → state.broken ≡ None → IsSome state.prepared → (state.prepared ≡ Some (next_place state.current)) × ToldPrepared told (next_place state.current)
prepared-place told state holds unbroken some = by_option state.prepared refl some
  where
    by_option : (o : Option Place) → state.prepared ≡ o → IsSome o → (state.prepared ≡ Some (next_place state.current)) × ToldPrepared told (next_place state.current)
    by_option None is some = absurd (cc (some))
    by_option (Some place) is some = let ready = holds.ready unbroken place is in (is ∙ ap (λ (p : Place). Some p) ready.next, subst (λ (p : Place). ToldPrepared told p) ready.next ready.prepared)
