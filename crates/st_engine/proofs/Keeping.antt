-- The frames that an engine keeps are enough, whichever of the discarded ones are gone.
use Rattle.std.proofs.Common.{◌≡◌, ◌∙◌, ◌<◌, ◌≤◌, ◌++◌, ◌&&◌, ◌||◌, ℕ, zero, suc, max, Bool, true, false, List, [], ◌∷◌, take, drop, fold, All, Option, None, IsTrue, refl, sym, ap, subst, arith, append_assoc}
use Rattle.std.specs.List.{AllByRecursion, list_any}
use Rattle.std.proofs.lemmas.Bool.{false≢true}
use Rattle.std.proofs.lemmas.List.{append-nil}
use Rattle.std.proofs.lemmas.List.Sums.{fold-append}
use Rattle.st_fold.specs.Map.{Map}
use Rattle.st_ops.specs.Grammar.{has_form}
use Rattle.st_queue.specs.Writing.{IsLess}
use Rattle.st_queue.specs.declared.frame.Frame.{Frame}
use Rattle.st_engine.specs.Kept.{Parts, Stand, ends_behind, ends_there}
use Rattle.st_engine.specs.Replay.{Recovery, frame_on, from_map, ops_of}
use Rattle.st_engine.specs.Snapshot.{has_close, has_end}
use Rattle.st_engine.proofs.Independent.{ended_frame, without_older}

first : (a b : Bool) → (a && b) ≡ true → a ≡ true
first true b e = refl
first false b e = absurd (false≢true e)

second : (a b : Bool) → (a && b) ≡ true → b ≡ true
second true b e = e
second false b e = absurd (false≢true e)

or-left : (a b : Bool) → a ≡ true → (a || b) ≡ true
or-left a b e = ap (λ (t : Bool). t || b) e

or-right : (a b : Bool) → b ≡ true → (a || b) ≡ true
or-right true b e = refl
or-right false b e = e

all-push : {X : Type 0} → (P : X → Type 0) (xs : List X) (x : X) → AllByRecursion P xs → P x → AllByRecursion P (xs ++ x ∷ [])
all-push P [] x all here = (here, tt)
all-push P (y ∷ xs) x all here = (all.0, all-push P xs x all.1 here)

abbrev pub is_nil : List Frame → Bool
is_nil [] = true
is_nil (frame ∷ frames) = false

-- behind frames in whose last one a snapshot ends no item is the last one
after-ends : (frame : Frame) (frames : List Frame) (r : Recovery) → IsTrue (ends_behind frame frames) → (fold frame_on r (frame ∷ frames)).last ≡ None
after-ends frame [] r ends = ended_frame frame r (record { ends = second (has_form (ops_of frame)) (has_end frame) ends; form = first (has_form (ops_of frame)) (has_end frame) ends })
after-ends frame (next ∷ frames) r ends = after-ends next frames (frame_on r frame) ends

pub unbegun-after : (frames : List Frame) (a : Map) → IsTrue (ends_there frames) → (fold frame_on (from_map a) frames).last ≡ None
unbegun-after [] a ends = refl
unbegun-after (frame ∷ frames) a ends = after-ends frame frames (from_map a) ends

ends-any : (frame : Frame) (frames more : List Frame) → IsTrue (ends_behind frame frames) → IsTrue (list_any has_end (frame ∷ frames ++ more))
ends-any frame [] more ends = or-left (has_end frame) (list_any has_end more) (second (has_form (ops_of frame)) (has_end frame) ends)
ends-any frame (next ∷ frames) more ends = or-right (has_end frame) (list_any has_end (next ∷ frames ++ more)) (ends-any next frames more ends)

ends-tail : (frame : Frame) (frames : List Frame) → IsTrue (ends_behind frame frames) → IsTrue (ends_there frames)
ends-tail frame [] ends = refl
ends-tail frame (next ∷ frames) ends = ends

-- the last frames tell whether a snapshot ends
ends-last : (before : List Frame) (frame : Frame) (frames : List Frame) → IsTrue (ends_behind frame frames) → IsTrue (ends_there (before ++ frame ∷ frames))
ends-last [] frame frames ends = ends
ends-last (other ∷ []) frame frames ends = ends
ends-last (other ∷ next ∷ before) frame frames ends = ends-last (next ∷ before) frame frames ends

pub any-behind : (a b : List Frame) → IsTrue (list_any has_end b) → IsTrue (list_any has_end (a ++ b))
any-behind [] b has = has
any-behind (frame ∷ a) b has = or-right (has_end frame) (list_any has_end (a ++ b)) (any-behind a b has)

pub any-before : (a b : List Frame) → IsTrue (list_any has_end a) → IsTrue (list_any has_end (a ++ b))
any-before [] b has = absurd (false≢true has)
any-before (frame ∷ a) b has = by_first (has_end frame) (any-before a b) has
  where
    by_first : (t : Bool) → (IsTrue (list_any has_end a) → IsTrue (list_any has_end (a ++ b))) → IsTrue (t || list_any has_end a) → IsTrue (t || list_any has_end (a ++ b))
    by_first true later has = refl
    by_first false later has = later has

-- what is left of the frames from before the last whole snapshot
record Left (gone : ℕ) (past rest : List Frame) : Type 0 where
  left : List Frame
  is : drop gone (past ++ rest) ≡ left ++ rest
  ends : IsTrue (ends_there past) → IsTrue (ends_there left)
  none : past ≡ [] → left ≡ []

left-past : (discarded gone : ℕ) (past rest : List Frame) → All (λ frame. frame.seq < discarded) (take gone (past ++ rest)) → AllByRecursion (λ frame. discarded ≤ frame.seq) rest → Left gone past rest
left-past discarded zero past rest all kept = record { left = past; is = refl; ends = λ e. e; none = λ e. e }
left-past discarded (suc gone) [] [] all kept = record { left = []; is = refl; ends = λ e. e; none = λ e. refl }
left-past discarded (suc gone) [] (frame ∷ rest) all kept = absurd (omega (arith, all 0 frame (omega arith), kept.0))
left-past discarded (suc gone) (frame ∷ past) rest all kept =
    let later = left-past discarded gone past rest (λ k d inside. all (suc k) d (omega (arith, inside))) kept in
    record { left = later.left; is = later.is; ends = λ e. later.ends (ends-tail frame past e); none = λ e. absurd (cc (e)) }

module _ (discarded began : ℕ) (pairs : Map) (cursor : Option (List ℕ)) (frames : List Frame) (stand : Stand discarded began pairs cursor frames) where
  abbrev parts : Parts discarded began frames
  parts = stand.parts

  abbrev rest : List Frame
  rest = parts.whole ++ parts.since

  -- the frames from before don't matter
  without : (older : List Frame) → (parts.whole ≡ [] → older ≡ []) → IsTrue (ends_there older) → fold frame_on (from_map []) (older ++ rest) ≡ fold frame_on (from_map []) rest
  without older none ends = by_whole parts.whole refl
    where
      by_whole : (whole : List Frame) → parts.whole ≡ whole → fold frame_on (from_map []) (older ++ rest) ≡ fold frame_on (from_map []) rest
      by_whole [] is = ap (λ (l : List Frame). fold frame_on (from_map []) (l ++ rest)) (none is)
      by_whole (frame ∷ whole) is =
          let has : IsTrue (list_any has_end rest) =
          subst (λ (l : List Frame). IsTrue (list_any has_end (l ++ parts.since))) (sym is)
          (ends-any frame whole parts.since (subst (λ (l : List Frame). IsTrue (ends_there l)) is parts.whole_ends)) in
          without_older older rest (unbegun-after older [] ends) has

  -- some of the discarded frames are gone
  pub reduced : (left : List Frame) → IsLess discarded frames left → Stand discarded began pairs cursor left
  reduced left less =
      let among = left-past discarded less.gone parts.past rest (subst (λ (l : List Frame). All (λ frame. frame.seq < discarded) (take less.gone l)) parts.parts less.discarded) parts.kept in
      let is : left ≡ among.left ++ rest = less.others ∙ ap (drop less.gone) parts.parts ∙ among.is in
      let none : parts.whole ≡ [] → among.left ≡ [] = λ e. among.none (parts.none_past e) in
      let ends = among.ends parts.past_ends in
      record {
        make = ap (fold frame_on (from_map [])) is ∙ without among.left none ends ∙ sym (without parts.past parts.none_past parts.past_ends)
            ∙ sym (ap (fold frame_on (from_map [])) parts.parts) ∙ stand.make;
        parts = record {
          past = among.left;
          whole = parts.whole;
          since = parts.since;
          parts = is;
          past_ends = ends;
          whole_ends = parts.whole_ends;
          none_past = none;
          kept = parts.kept;
          new = parts.new;
        };
      }

  -- there is still a frame where there was one
  pub some-left : (left : List Frame) → IsLess discarded frames left → is_nil left ≡ is_nil frames
  some-left left less =
      let among = left-past discarded less.gone parts.past rest (subst (λ (l : List Frame). All (λ frame. frame.seq < discarded) (take less.gone l)) parts.parts less.discarded) parts.kept in
      let is : left ≡ among.left ++ rest = less.others ∙ ap (drop less.gone) parts.parts ∙ among.is in
      ap is_nil is ∙ by_parts among.left parts.past parts.whole parts.since (λ e. among.none (parts.none_past e)) parts.none_past ∙ sym (ap is_nil parts.parts)
    where
      nil-behind : (a : List Frame) (f : Frame) (b : List Frame) → is_nil (a ++ f ∷ b) ≡ false
      nil-behind [] f b = refl
      nil-behind (x ∷ a) f b = refl

      by_parts : (a b whole since : List Frame) → (whole ≡ [] → a ≡ []) → (whole ≡ [] → b ≡ []) → is_nil (a ++ (whole ++ since)) ≡ is_nil (b ++ (whole ++ since))
      by_parts a b [] since a_none b_none = (λ i. is_nil (a_none refl i ++ since)) ∙ sym (λ i. is_nil (b_none refl i ++ since))
      by_parts a b (f ∷ whole) since a_none b_none = nil-behind a f (whole ++ since) ∙ sym (nil-behind b f (whole ++ since))

  -- and one in which a snapshot ends, where there was one
  pub end-left : (left : List Frame) → IsLess discarded frames left → IsTrue (list_any has_end frames) → IsTrue (list_any has_end left)
  end-left left less has =
      let among = left-past discarded less.gone parts.past rest (subst (λ (l : List Frame). All (λ frame. frame.seq < discarded) (take less.gone l)) parts.parts less.discarded) parts.kept in
      let is : left ≡ among.left ++ rest = less.others ∙ ap (drop less.gone) parts.parts ∙ among.is in
      subst (λ (l : List Frame). IsTrue (list_any has_end l)) (sym is)
      (any-behind among.left rest (by_whole parts.whole refl (subst (λ (l : List Frame). IsTrue (list_any has_end l)) parts.parts has)))
    where
      by_whole : (whole : List Frame) → parts.whole ≡ whole → IsTrue (list_any has_end (parts.past ++ rest)) → IsTrue (list_any has_end rest)
      by_whole [] is has = subst (λ (l : List Frame). IsTrue (list_any has_end (l ++ rest))) (parts.none_past is) has
      by_whole (frame ∷ whole) is has =
          subst (λ (l : List Frame). IsTrue (list_any has_end (l ++ parts.since))) (sym is)
          (ends-any frame whole parts.since (subst (λ (l : List Frame). IsTrue (ends_there l)) is parts.whole_ends))

  module _ (frame : Frame) (after : Recovery) (on : frame_on (record { pairs = pairs; last = cursor }) frame ≡ after) where
    made : fold frame_on (from_map []) (frames ++ frame ∷ []) ≡ after
    made = fold-append frame_on (from_map []) frames (frame ∷ []) ∙ ap (λ (r : Recovery). frame_on r frame) stand.make ∙ on

    joined : frames ++ frame ∷ [] ≡ parts.past ++ (parts.whole ++ (parts.since ++ frame ∷ []))
    joined =
        ap (λ (l : List Frame). l ++ frame ∷ []) parts.parts
        ∙ append_assoc parts.past rest (frame ∷ [])
        ∙ ap (λ (l : List Frame). parts.past ++ l) (append_assoc parts.whole parts.since (frame ∷ []))

    -- one frame more, in which no snapshot needs to end
    pub appended : discarded ≤ frame.seq → began ≤ frame.seq → Stand discarded began after.pairs after.last (frames ++ frame ∷ [])
    appended kept new = record {
      make = made;
      parts = record {
        past = parts.past;
        whole = parts.whole;
        since = parts.since ++ frame ∷ [];
        parts = joined;
        past_ends = parts.past_ends;
        whole_ends = parts.whole_ends;
        none_past = parts.none_past;
        kept = subst (AllByRecursion (λ (f : Frame). discarded ≤ f.seq)) (append_assoc parts.whole parts.since (frame ∷ [])) (all-push (λ (f : Frame). discarded ≤ f.seq) rest frame parts.kept kept);
        new = all-push (λ (f : Frame). began ≤ f.seq) parts.since frame parts.new new;
      };
    }

    all-behind : (P : Frame → Type 0) (a b : List Frame) → AllByRecursion P (a ++ b) → AllByRecursion P b
    all-behind P [] b all = all
    all-behind P (x ∷ a) b all = all-behind P a b all.1

    all-both : (a b : ℕ) (l : List Frame) → AllByRecursion (λ f. a ≤ f.seq) l → AllByRecursion (λ f. b ≤ f.seq) l → AllByRecursion (λ f. max a b ≤ f.seq) l
    all-both a b [] first second = tt
    all-both a b (f ∷ l) first second = (omega (arith, first.0, second.0), all-both a b l first.1 second.1)

    past-whole : IsTrue (ends_there (parts.past ++ parts.whole))
    past-whole = by_whole parts.whole refl
      where
        by_whole : (whole : List Frame) → parts.whole ≡ whole → IsTrue (ends_there (parts.past ++ parts.whole))
        by_whole [] is = subst (λ (l : List Frame). IsTrue (ends_there l)) (sym (ap (λ (l : List Frame). parts.past ++ l) is ∙ append-nil parts.past)) parts.past_ends
        by_whole (first ∷ whole) is =
            subst (λ (l : List Frame). IsTrue (ends_there (parts.past ++ l))) (sym is) (ends-last parts.past first whole (subst (λ (l : List Frame). IsTrue (ends_there l)) is parts.whole_ends))

    -- a snapshot ends in it: the frames from before it aren't needed any more
    pub ended : (from : ℕ) → IsTrue (has_close frame) → discarded ≤ frame.seq → began ≤ frame.seq → Stand (max discarded began) from after.pairs after.last (frames ++ frame ∷ [])
    ended from closes kept new = record {
      make = made;
      parts = record {
        past = parts.past ++ parts.whole;
        whole = parts.since ++ frame ∷ [];
        since = [];
        parts = joined ∙ sym (append_assoc parts.past parts.whole (parts.since ++ frame ∷ [])) ∙ ap (λ (l : List Frame). (parts.past ++ parts.whole) ++ l) (sym (append-nil (parts.since ++ frame ∷ [])));
        past_ends = past-whole;
        whole_ends = ends-last parts.since frame [] closes;
        none_past = λ e. absurd (some parts.since e);
        kept = subst (AllByRecursion (λ (f : Frame). max discarded began ≤ f.seq)) (sym (append-nil (parts.since ++ frame ∷ [])))
            (all-push (λ (f : Frame). max discarded began ≤ f.seq) parts.since frame
            (all-both discarded began parts.since (all-behind (λ (f : Frame). discarded ≤ f.seq) parts.whole parts.since parts.kept) parts.new) (omega (arith, kept, new)));
        new = tt;
      };
    }
      where
        some : (l : List Frame) → l ++ frame ∷ [] ≡ [] → ⊥
        some [] e = cc (e)
        some (x ∷ l) e = cc (e)

-- no frame
pub nothing-stands : Stand 0 0 [] None []
nothing-stands = record {
  make = refl;
  parts = record { past = []; whole = []; since = []; parts = refl; past_ends = refl; whole_ends = refl; none_past = λ e. refl; kept = tt; new = tt };
}
