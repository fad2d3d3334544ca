-- What an engine keeps of its disk.
use Rattle.std.proofs.Common.{◌≡◌, ◌∙◌, ◌≤◌, ⊎_elim, inl, inr, ℕ, max, Bool, true, false, List, [], ◌∷◌, ◌++◌, Option, Some, None, Result, Ok, Err, IfSome, IsTrue, ◌==◌, length, fold, refl, sym, ap, subst, arith}
use Rattle.std.proofs.lemmas.Bool.{false≢true}
use Rattle.std.proofs.lemmas.Bool.Decides.{nat_tests}
use Rattle.std.specs.Option.{option_map}
use Rattle.st_disk.specs.History.{History, Files, seen}
use Rattle.st_disk.specs.Moments.{ToldLeavesOnly, started, weaker}
use Rattle.st_fold.specs.Map.{Map}
use Rattle.st_ops.specs.declared.op.Op.{Op}
use Rattle.st_queue.specs.Due.{due_of}
use Rattle.st_queue.specs.Frames.{Damage}
use Rattle.st_queue.specs.Mounting.{IsImageOf, after_both}
use Rattle.st_queue.specs.Place.{next_number}
use Rattle.st_queue.specs.Queue.{IsMounted, Opened, is_due, with_discarded}
use Rattle.st_queue.specs.Writing.{HasLess, ToldSettled, frames_now, frames_of}
use Rattle.st_queue.specs.declared.frame.Frame.{Frame}
use Rattle.st_queue.specs.declared.place.Place.{Place}
use Rattle.st_queue.specs.declared.state.State.{State}
use Rattle.st_engine.specs.Answers.{HasLessOrMore, HasOneMore, Mounts, ToldFewer, ToldOneMore}
use Rattle.st_engine.specs.Commit.{frame_place, is_ended_by}
use Rattle.st_engine.specs.Engine.{Agrees, IsLeft, Keeps, Mounted, StandsOn, ToldAgrees, over}
use Rattle.st_engine.specs.Holding.{HasEnd, MountsTo, is_none_read, points_of}
use Rattle.st_engine.specs.Kept.{Stand}
use Rattle.st_engine.specs.Replay.{Recovery, frame_on, from_map, ops_on}
use Rattle.st_engine.specs.Snapshot.{has_close}
use Rattle.st_engine.specs.Store.{Bounds, Kept, Store, mount_of, store_of}
use Rattle.st_engine.proofs.Histories.{image-synced}
use Rattle.st_engine.proofs.Independent.{independent_frames}
use Rattle.st_engine.proofs.Keeping.{any-before, appended, end-left, ended, is_nil, reduced, some-left}
use Rattle.st_engine.proofs.Sizes.{first_ends}

abbrev Reading : Type 0
Reading = Result (List Frame) Damage

-- the next frame has the next number
pub place-next : (due : Bool) (current : Option Place) → (frame_place due current).next ≡ next_number current
place-next due None = refl
place-next true (Some place) = refl
place-next false (Some place) = refl

-- a disk that tells has frames that stand, if any
abbrev pub ToldStandsOn : Option History → Store → Type 0
ToldStandsOn told store = IfSome told (λ h. StandsOn h store)

abbrev pub ToldFresh : Option History → Bool → Type 0
ToldFresh told fresh = IfSome told (λ h. fresh ≡ is_none_read (frames_now h))

-- a disk that doesn't tell goes on not telling
pub untold : (told new : Option History) (P : Files → Type 0) → ToldLeavesOnly told new P → told ≡ None → new ≡ None
untold told new P leaves none = subst (λ (t : Option History). ToldLeavesOnly t new P) none leaves

some-more : (left : List Frame) (frame : Frame) → is_none_read (Ok (left ++ frame ∷ [])) ≡ false
some-more [] frame = refl
some-more (other ∷ left) frame = refl

module _ (discarded began : ℕ) (pairs : Map) (cursor : Option (List ℕ)) where
  -- files with frames that stand mount to the map
  pub mounts-on : (frames : List Frame) → Stand discarded began pairs cursor frames → (files : Files) → frames_of files ≡ Ok frames → MountsTo pairs files
  mounts-on frames stand files read = record {
    frames = frames;
    read = read;
    from_empty = ap (λ (r : Recovery). r.pairs) stand.make;
    from_any = λ has start sorted. ap (λ (r : Recovery). r.pairs) (independent_frames frames start [] sorted refl has ∙ stand.make);
  }

-- the disk is as an engine remembers it
pub told-agrees : {D : Type 0} → (told : Option History) (engine : Mounted D) → ToldStandsOn told engine.store → ToldFresh told engine.store.fresh → ToldSettled told engine.place
    → IfSome told (λ h. engine.due ≡ due_of engine.bounds.swap engine.store.discarded (seen h)) → IfSome told (λ h. Agrees engine h)
told-agrees None engine stands fresh settled due = tt
told-agrees (Some h) engine stands fresh settled due = record {
  stands = stands;
  reads = record {
    mounts = mounts-on engine.store.discarded engine.store.began engine.store.pairs engine.store.cursor stands.frames stands.stand (seen h) stands.read;
    fresh_is = sym fresh;
  };
  place_is = settled.ends;
  due_is = due;
}

pub agreed-stands : {D : Type 0} → (told : Option History) (engine : Mounted D) → IfSome told (λ h. Agrees engine h) → ToldStandsOn told engine.store
agreed-stands None engine agrees = tt
agreed-stands (Some h) engine agrees = agrees.stands

pub agreed-fresh : {D : Type 0} → (told : Option History) (engine : Mounted D) → IfSome told (λ h. Agrees engine h) → ToldFresh told engine.store.fresh
agreed-fresh None engine agrees = tt
agreed-fresh (Some h) engine agrees = sym agrees.reads.fresh_is

module _ (store : Store) where
  abbrev Stands : List Frame → Type 0
  Stands frames = Stand store.discarded store.began store.pairs store.cursor frames

  -- frames that are left of others that stand
  record LeftStand (reading : Reading) : Type 0 where
    left : List Frame
    is : reading ≡ Ok left
    stand : Stands left

  less-stand : (frames : List Frame) → Stands frames → (reading : Reading) → HasLess store.discarded (Ok frames) reading → LeftStand reading
  less-stand frames stand (Ok left) less = record { left = left; is = refl; stand = reduced store.discarded store.began store.pairs store.cursor frames stand left less }
  less-stand frames stand (Err damage) less = absurd less

  -- the frames that stand after a refusal make the same map
  pub stands-less : (told new : Option History) (place : Option Place) → (told ≡ None → new ≡ None) → ToldStandsOn told store → ToldSettled new place → ToldFewer store.discarded told new → ToldStandsOn new store
  stands-less None new place none stands settled less = subst (λ (n : Option History). ToldStandsOn n store) (sym (none refl)) tt
  stands-less (Some h) None place none stands settled less = tt
  stands-less (Some h) (Some n) place none stands settled less =
      let left = less-stand stands.frames stands.stand (frames_now n) (subst (λ (r : Reading). HasLess store.discarded r (frames_now n)) stands.read less) in
      record { frames = left.left; read = left.is; stand = left.stand; images = image-synced n settled.synced }

  none_read : (frames : List Frame) → is_none_read (Ok frames) ≡ is_nil frames
  none_read [] = refl
  none_read (frame ∷ frames) = refl

  still_fresh : (frames : List Frame) → Stands frames → (reading : Reading) → HasLess store.discarded (Ok frames) reading → is_none_read (Ok frames) ≡ is_none_read reading
  still_fresh frames stand (Ok left) less = none_read frames ∙ sym (some-left store.discarded store.began store.pairs store.cursor frames stand left less) ∙ sym (none_read left)
  still_fresh frames stand (Err damage) less = absurd less

  pub fresh-less : (told new : Option History) → (told ≡ None → new ≡ None) → ToldStandsOn told store → ToldFresh told store.fresh → ToldFewer store.discarded told new → ToldFresh new store.fresh
  fresh-less None new none stands is less = subst (λ (n : Option History). ToldFresh n store.fresh) (sym (none refl)) tt
  fresh-less (Some h) None none stands is less = tt
  fresh-less (Some h) (Some n) none stands is less =
      is ∙ ap is_none_read stands.read ∙ still_fresh stands.frames stands.stand (frames_now n) (subst (λ (r : Reading). HasLess store.discarded r (frames_now n)) stands.read less)

  end_stays : (frames : List Frame) → Stands frames → (reading : Reading) → HasLess store.discarded (Ok frames) reading → HasEnd (Ok frames) → HasEnd reading
  end_stays frames stand (Ok left) less has = end-left store.discarded store.began store.pairs store.cursor frames stand left less has
  end_stays frames stand (Err damage) less has = absurd less

  end_in_more : (frame : Frame) (frames : List Frame) → Stands frames → (reading : Reading) → HasOneMore store.discarded frame (Ok frames) reading → HasEnd (Ok frames) → HasEnd reading
  end_in_more frame frames stand reading more has =
      subst HasEnd (sym more.others) (any-before more.left (frame ∷ []) (end-left store.discarded store.began store.pairs store.cursor frames stand more.left more.less has))

  -- nothing was done
  pub leaves-none : (told : Option History) (ops : List Op) → ToldStandsOn told store → ToldFresh told store.fresh → ToldLeavesOnly told told (IsLeft told store ops)
  leaves-none None ops stands fresh = refl
  leaves-none (Some h) ops stands fresh = started h (IsLeft (Some h) store ops) (λ images may.
      let same = ap frames_of (stands.images images may) in
      record {
        reads = inl (record {
          mounts = mounts-on store.discarded store.began store.pairs store.cursor stands.frames stands.stand images (same ∙ stands.read);
          fresh_is = ap is_none_read same ∙ sym fresh;
        });
        keeps_an_end = λ has. subst HasEnd (sym same) has;
      })

  -- the first commit of an empty store ends a snapshot
  pub first-closes : (told : Option History) (quota : ℕ) (ops : List Op) → ToldStandsOn told store → 1 ≤ quota → IfSome told (λ h. frames_now h ≡ Ok [] → IsTrue (is_ended_by quota store ops))
  first-closes None quota ops stands one = tt
  first-closes (Some h) quota ops stands one = λ empty.
      let none : stands.frames ≡ [] = no_frame stands.frames (sym stands.read ∙ empty) in
      let make : from_map [] ≡ record { pairs = store.pairs; last = store.cursor } = subst (λ (l : List Frame). fold frame_on (from_map []) l ≡ record { pairs = store.pairs; last = store.cursor }) none stands.stand.make in
      subst (λ (r : Recovery). IsTrue (is_ended_by quota (record { pairs = r.pairs; fresh = store.fresh; cursor = r.last; began = store.began; discarded = store.discarded }) ops)) make (first_ends quota ops one)
    where
      the_ok : List Frame → Reading
      the_ok frames = Ok frames

      no_frame : (frames : List Frame) → the_ok frames ≡ the_ok [] → frames ≡ []
      no_frame [] e = refl
      no_frame (frame ∷ frames) e = absurd (cc (e))

  -- the frame of a commit, behind frames that are left
  module _ (frame : Frame) (behind : Map) (next : Option (List ℕ)) (on : frame_on (record { pairs = store.pairs; last = store.cursor }) frame ≡ record { pairs = behind; last = next })
      (kept : store.discarded ≤ frame.seq) (new_is : store.began ≤ frame.seq) where
    record MoreStand (reading : Reading) : Type 0 where
      left : List Frame
      is : reading ≡ Ok (left ++ frame ∷ [])
      stand : Stands left

    more-stand : (frames : List Frame) → Stands frames → (reading : Reading) → HasOneMore store.discarded frame (Ok frames) reading → MoreStand reading
    more-stand frames stand reading more = record { left = more.left; is = more.others; stand = reduced store.discarded store.began store.pairs store.cursor frames stand more.left more.less }

    -- each image is the store before or behind the commit
    pub leaves-either : (told new : Option History) (ops : List Op) → behind ≡ ops_on store.pairs ops → ToldStandsOn told store → ToldFresh told store.fresh → ToldLeavesOnly told new (HasLessOrMore store.discarded frame told)
        → ToldLeavesOnly told new (IsLeft told store ops)
    leaves-either None new ops made stands fresh leaves = leaves
    leaves-either (Some h) None ops made stands fresh leaves = leaves
    leaves-either (Some h) (Some n) ops made stands fresh leaves = weaker h n (HasLessOrMore store.discarded frame (Some h)) (IsLeft (Some h) store ops) leaves (λ images either. ⊎_elim (fewer images) (more images) either)
      where
        fewer : (images : Files) → HasLess store.discarded (frames_now h) (frames_of images) → IsLeft (Some h) store ops images
        fewer images less =
            let these = subst (λ (r : Reading). HasLess store.discarded r (frames_of images)) stands.read less in
            let left = less-stand stands.frames stands.stand (frames_of images) these in
            record {
              reads = inl (record {
                mounts = mounts-on store.discarded store.began store.pairs store.cursor left.left left.stand images left.is;
                fresh_is = sym (still_fresh stands.frames stands.stand (frames_of images) these) ∙ sym (ap is_none_read stands.read) ∙ sym fresh;
              });
              keeps_an_end = λ has. end_stays stands.frames stands.stand (frames_of images) these (subst HasEnd stands.read has);
            }

        more : (images : Files) → HasOneMore store.discarded frame (frames_now h) (frames_of images) → IsLeft (Some h) store ops images
        more images one =
            let these = subst (λ (r : Reading). HasOneMore store.discarded frame r (frames_of images)) stands.read one in
            let left = more-stand stands.frames stands.stand (frames_of images) these in
            let whole = appended store.discarded store.began store.pairs store.cursor left.left left.stand frame (record { pairs = behind; last = next }) on kept new_is in
            record {
              reads = inr (record {
                mounts = subst (λ (m : Map). MountsTo m images) made (mounts-on store.discarded store.began behind next (left.left ++ frame ∷ []) whole images left.is);
                fresh_is = ap is_none_read left.is ∙ some-more left.left frame;
              });
              keeps_an_end = λ has. end_in_more frame stands.frames stands.stand (frames_of images) these (subst HasEnd stands.read has);
            }

    -- what stands behind it, where no snapshot ends in it
    abbrev pub store_on : Store
    store_on = record { pairs = behind; fresh = false; cursor = next; began = store.began; discarded = store.discarded }

    pub stands-more : (told new : Option History) (place : Option Place) → (told ≡ None → new ≡ None) → ToldStandsOn told store → ToldSettled new place → ToldOneMore store.discarded frame told new → ToldStandsOn new store_on
    stands-more None new place none stands settled more = subst (λ (n : Option History). ToldStandsOn n store_on) (sym (none refl)) tt
    stands-more (Some h) None place none stands settled more = tt
    stands-more (Some h) (Some n) place none stands settled more =
        let left = more-stand stands.frames stands.stand (frames_now n) (subst (λ (r : Reading). HasOneMore store.discarded frame r (frames_now n)) stands.read more) in
        record {
          frames = left.left ++ frame ∷ [];
          read = left.is;
          stand = appended store.discarded store.began store.pairs store.cursor left.left left.stand frame (record { pairs = behind; last = next }) on kept new_is;
          images = image-synced n settled.synced;
        }

    -- and where one does
    abbrev pub store_closed : ℕ → Store
    store_closed from = record { pairs = behind; fresh = false; cursor = next; began = from; discarded = max store.discarded store.began }

    pub stands-closed : (from : ℕ) → IsTrue (has_close frame) → (told new : Option History) (place : Option Place) → (told ≡ None → new ≡ None) → ToldStandsOn told store → ToldSettled new place → ToldOneMore store.discarded frame told new
        → ToldStandsOn new (store_closed from)
    stands-closed from closes None new place none stands settled more = subst (λ (n : Option History). ToldStandsOn n (store_closed from)) (sym (none refl)) tt
    stands-closed from closes (Some h) None place none stands settled more = tt
    stands-closed from closes (Some h) (Some n) place none stands settled more =
        let left = more-stand stands.frames stands.stand (frames_now n) (subst (λ (r : Reading). HasOneMore store.discarded frame r (frames_now n)) stands.read more) in
        record {
          frames = left.left ++ frame ∷ [];
          read = left.is;
          stand = ended store.discarded store.began store.pairs store.cursor left.left left.stand frame (record { pairs = behind; last = next }) on from closes kept new_is;
          images = image-synced n settled.synced;
        }

pub fresh-more : (from : ℕ) (frame : Frame) (told new : Option History) → (told ≡ None → new ≡ None) → ToldOneMore from frame told new → ToldFresh new false
fresh-more from frame None new none more = subst (λ (n : Option History). ToldFresh n false) (sym (none refl)) tt
fresh-more from frame (Some h) None none more = tt
fresh-more from frame (Some h) (Some n) none more = sym (ap is_none_read more.others ∙ some-more more.left frame)

-- after a mount
pub no-frames : (frames : List Frame) → (length frames == 0) ≡ is_none_read (Ok frames)
no-frames [] = refl
no-frames (frame ∷ frames) = let e : (length (frame ∷ frames) == 0) ≡ false = grind (arith, nat_tests) in e

-- the store of frames that were read
pub store-read : (store : Store) (frames : List Frame) → Stand store.discarded store.began store.pairs store.cursor frames → record { discarded = store.discarded; began = store.began } ≡ points_of frames → store.fresh ≡ is_none_read (Ok frames)
    → store_of frames ≡ store
store-read store frames stand points fresh =
    let made = stand.make in λ i. record { pairs = (made i).pairs; fresh = sym fresh i; cursor = (made i).last; began = (sym points i).began; discarded = (sym points i).discarded }

pub mount-is : (told : Option History) (store : Store) (frames : List Frame) → IfSome told (λ h. frames_now h ≡ Ok frames) → store_of frames ≡ store → IfSome told (λ h. mount_of (seen h) ≡ Ok (record { files = seen h; store = store }))
mount-is None store frames read is = tt
mount-is (Some h) store frames read is = ap (mounted (seen h)) read ∙ ap (λ (s : Store). Ok (record { files = seen h; store = s })) is
  where
    mounted : Files → Reading → Result Kept Damage
    mounted files (Ok frames) = Ok (record { files = files; store = store_of frames })
    mounted files (Err damage) = Err damage

pub mount-stands : (store : Store) (told new : Option History) (frames : List Frame) (place : Option Place) → new ≡ option_map after_both told → ToldSettled new place → IfSome told (λ h. frames_now h ≡ Ok frames)
    → Stand store.discarded store.began store.pairs store.cursor frames → ToldStandsOn new store
mount-stands store None new frames place is settled read stand = subst (λ (n : Option History). ToldStandsOn n store) (sym is) tt
mount-stands store (Some h) new frames place is settled read stand =
    let now = subst (λ (n : Option History). ToldSettled n place) is settled in
    subst (λ (n : Option History). ToldStandsOn n store) (sym is) (record { frames = frames; read = read; stand = stand; images = image-synced (after_both h) now.synced })

pub mount-fresh : (told new : Option History) (frames : List Frame) (fresh : Bool) → new ≡ option_map after_both told → IfSome told (λ h. frames_now h ≡ Ok frames) → fresh ≡ is_none_read (Ok frames) → ToldFresh new fresh
mount-fresh None new frames fresh is read same = subst (λ (n : Option History). ToldFresh n fresh) (sym is) tt
mount-fresh (Some h) new frames fresh is read same = subst (λ (n : Option History). ToldFresh n fresh) (sym is) (same ∙ ap is_none_read (sym read))

untouched-read : (store : Store) (frames : List Frame) → Stand store.discarded store.began store.pairs store.cursor frames → store.fresh ≡ is_none_read (Ok frames) → store.fresh ≡ true → store.pairs ≡ []
untouched-read store [] stand is fresh = sym (ap (λ (r : Recovery). r.pairs) stand.make)
untouched-read store (frame ∷ frames) stand is fresh = absurd (false≢true (sym is ∙ fresh))

-- an engine over a queue that was mounted, and whose frames were read
module _ {D : Type 0} (history : D → Option History) (disk : D) (queue new : Opened D) (frames : List Frame) (store : Store) (bounds : Bounds)
    (read : IfSome (history disk) (λ h. frames_now h ≡ Ok frames)) (synced : history queue.disk ≡ option_map after_both (history disk)) (settled : ToldSettled (history queue.disk) queue.state.current)
    (state : IsMounted bounds.swap bounds.limit queue.state) (disk_is : new.disk ≡ queue.disk) (state_is : new.state ≡ with_discarded (max queue.state.discarded store.discarded) queue.state)
    (stand : Stand store.discarded store.began store.pairs store.cursor frames) (points : record { discarded = store.discarded; began = store.began } ≡ points_of frames) (fresh_is : store.fresh ≡ is_none_read (Ok frames)) where
  abbrev pub mounted : Mounted D
  mounted = over new store.pairs store.fresh store.cursor store.began bounds.quota

  discarded-is : new.state.discarded ≡ store.discarded
  discarded-is = ap (λ (s : State). s.discarded) state_is ∙ omega (arith, state.none_discarded)

  store-is : mounted.store ≡ store
  store-is = λ i. record { pairs = store.pairs; fresh = store.fresh; cursor = store.cursor; began = store.began; discarded = discarded-is i }

  now-is : history new.disk ≡ history queue.disk
  now-is = ap history disk_is

  current-is : new.state.current ≡ queue.state.current
  current-is = ap (λ (s : State). s.current) state_is

  pub mounts : ToldLeavesOnly (history disk) (history queue.disk) (IsImageOf (history disk)) → Mounts history disk bounds mounted
  mounts leaves =
      let swap = ap (λ (s : State). s.swap) state_is ∙ state.swap_is in
      let limit = ap (λ (s : State). s.limit) state_is ∙ state.limit_is in
      record {
        is = subst (λ (s : Store). IfSome (history disk) (λ h. mount_of (seen h) ≡ Ok (record { files = seen h; store = s }))) (sym store-is)
            (mount-is (history disk) store frames read (store-read store frames stand points fresh_is));
        synced = now-is ∙ synced;
        unbroken = ap (λ (s : State). s.broken) state_is ∙ state.unbroken;
        bounds_are = λ i. record { quota = bounds.quota; swap = swap i; limit = limit i };
        any_moment = subst (λ (n : Option History). ToldLeavesOnly (history disk) n (IsImageOf (history disk))) (sym now-is) leaves;
      }

  module _ (due : new.state.broken ≡ None → IfSome (history new.disk) (λ h. is_due new.state ≡ due_of new.state.swap new.state.discarded (seen h))) where
    pub mount-agrees : ToldAgrees history mounted
    mount-agrees unbroken = told-agrees (history new.disk) mounted
        (subst (λ (s : Store). ToldStandsOn (history new.disk) s) (sym store-is)
        (subst (λ (n : Option History). ToldStandsOn n store) (sym now-is) (mount-stands store (history disk) (history queue.disk) frames queue.state.current synced settled read stand)))
        (subst (λ (n : Option History). ToldFresh n store.fresh) (sym now-is) (mount-fresh (history disk) (history queue.disk) frames store.fresh synced read fresh_is))
        (subst (λ (n : Option History). ToldSettled n new.state.current) (sym now-is) (subst (λ (p : Option Place). ToldSettled (history queue.disk) p) (sym current-is) settled))
        (due unbroken)

    pub mount-keeps : store.discarded ≤ store.began → store.began ≤ next_number queue.state.current → Keeps history mounted
    mount-keeps order numbered = record {
      agrees = mount-agrees;
      order = subst (λ (d : ℕ). d ≤ store.began) (sym discarded-is) order;
      numbered = subst (λ (p : Option Place). store.began ≤ next_number p) (sym current-is) numbered;
      untouched = untouched-read store frames stand fresh_is;
    }
