-- Roots that tell the values of a log.
use Rattle.std.proofs.Common.{◌≡◌, ◌∙◌, ◌≤◌, ◌<◌, ◌⊎◌, inl, inr, ℕ, suc, Bool, true, false, cond, nat_le, nat_lt, leb-true, leb-false, List, Option, Some, None, unwrap_or, refl, sym, ap, arith}
use Rattle.st_mutation.specs.declared.batch.Batch.{Batch}
use Rattle.st_versioned.specs.Root.{Decision, decision_above, told}
use Rattle.st_course.specs.Sent.{value_of}
use Rattle.st_board.specs.Values.{Has}
use Rattle.st_board.specs.Tells.{MakesTo, TellsTo}

module _ (log : List Batch) (key : List ℕ) where
  -- nothing changes a key from one version up to another
  abbrev pub Stays : (from upto : ℕ) → Type 0
  Stays from upto = (between : ℕ) → from ≤ between → between ≤ upto → value_of log between key ≡ value_of log from key

  has-later : (from version later : ℕ) (value : Option (List ℕ)) → from ≤ version → Stays version later → Has log from version key value → Has log from later key value
  has-later from version later value first stays has between low high = by_test (nat_le between version) refl
    where
      by_test : (t : Bool) → nat_le between version ≡ t → value_of log between key ≡ value
      by_test true is = has between low (leb-true _ _ is)
      by_test false is = let lt = leb-false between version is in stays between (omega arith) high ∙ has version first (omega arith)

  -- a root over a base at the durable version is the map of its version
  pub tells-value : (durable version : ℕ) (base : Option (List ℕ)) (decision : Decision) → durable ≤ version → base ≡ value_of log durable key → TellsTo log durable version key decision
      → unwrap_or (told decision) base ≡ value_of log version key
  tells-value durable version base None le is tells = is ∙ sym (tells version le (omega arith))
  tells-value durable version base (Some found) le is tells = sym (tells.1 version tells.0 (omega arith))

  -- what is told of a version is told of a later one, up to which nothing changes
  pub tells-later : (durable version later : ℕ) (decision : Decision) → durable ≤ version → version ≤ later → Stays version later → TellsTo log durable version key decision → TellsTo log durable later key decision
  tells-later durable version later None first le stays tells = has-later durable version later (value_of log durable key) first stays tells
  tells-later durable version later (Some found) first le stays tells =
      let low = tells.0 in
      ((omega arith), has-later found.0 version later found.1 tells.0 stays tells.1)

  -- and above a later durable version
  pub tells-durable : (durable next version : ℕ) (decision : Decision) → durable ≤ next → next ≤ version → TellsTo log durable version key decision → TellsTo log next version key decision
  tells-durable durable next version None low high tells = λ between from upto. tells between (omega arith) upto ∙ sym (tells next low high)
  tells-durable durable next version (Some found) low high tells = tells

  -- what was decided at the durable version or below it may be left out
  pub tells-above : (durable version : ℕ) (decision : Decision) → TellsTo log durable version key decision → durable ≤ version → TellsTo log durable version key (decision_above durable decision)
  tells-above durable version None tells le = tells
  tells-above durable version (Some found) tells le = by_test (nat_lt durable found.0) refl
    where
      by_test : (t : Bool) → nat_lt durable found.0 ≡ t → TellsTo log durable version key (cond t (Some found) None)
      by_test true is = tells
      by_test false is =
          let not_lt = leb-false (suc durable) found.0 is in
          let made : found.0 ≤ durable = omega arith in
          λ between from upto. tells.1 between (omega arith) upto ∙ sym (tells.1 durable made le)

  -- a version begins with what the newest one tells
  pub makes-first : (durable newest made : ℕ) (decision : Decision) → durable ≤ newest → newest < made → TellsTo log durable newest key decision → MakesTo log durable newest made key decision (value_of log newest key)
  makes-first durable newest made None le lt tells = (tells, tells newest le (omega arith))
  makes-first durable newest made (Some found) le lt tells = (inl tells.0, tells.1, tells.1 newest tells.0 (omega arith))

  -- it is decided anew
  pub makes-decided : (durable newest made : ℕ) (value : Option (List ℕ)) → newest < made → MakesTo log durable newest made key (Some (made, value)) value
  makes-decided durable newest made value lt = (inr refl, (λ between from upto. absurd (omega arith)), refl)

  -- and in the end tells the next version
  pub makes-last : (durable newest made : ℕ) (decision : Decision) (value : Option (List ℕ)) → durable ≤ newest → newest < made
      → ((between : ℕ) → newest ≤ between → between < made → value_of log between key ≡ value_of log newest key) → value_of log made key ≡ value
      → MakesTo log durable newest made key decision value → TellsTo log durable made key decision
  makes-last durable newest made None value le lt stays is makes = λ between from upto. by_test between from upto (nat_lt between made) refl
    where
      by_test : (between : ℕ) → durable ≤ between → between ≤ made → (t : Bool) → nat_lt between made ≡ t → value_of log between key ≡ value_of log durable key
      by_test between from upto true test =
          has-later durable newest between (value_of log durable key) le (λ u low high. stays u low (let less = leb-true (suc between) made test in omega arith)) makes.0 between from (omega arith)
      by_test between from upto false test =
          let not_less = leb-false (suc between) made test in
          let same_version : between ≡ made = omega arith in
          ap (λ u. value_of log u key) same_version ∙ is ∙ makes.1
  makes-last durable newest made (Some found) value le lt stays is makes = by_time makes.0
    where
      by_time : (found.0 ≤ newest) ⊎ (found.0 ≡ made) → TellsTo log durable made key (Some found)
      by_time (inr now) = ((let e = now in omega arith), λ between from upto. let one : between ≡ made = (let e = now in omega arith) in ap (λ u. value_of log u key) one ∙ is ∙ makes.2)
      by_time (inl before) = ((omega arith), λ between from upto. by_test between from upto (nat_lt between made) refl)
        where
          by_test : (between : ℕ) → found.0 ≤ between → between ≤ made → (t : Bool) → nat_lt between made ≡ t → value_of log between key ≡ found.1
          by_test between from upto true test =
              has-later found.0 newest between found.1 before (λ u low high. stays u low (let less = leb-true (suc between) made test in omega arith)) makes.1 between from (omega arith)
          by_test between from upto false test =
              let not_less = leb-false (suc between) made test in
              let one : between ≡ made = omega arith in
              ap (λ u. value_of log u key) one ∙ is ∙ makes.2

  -- a root in the making over a base at the durable version is the map of this point
  pub makes-value : (durable newest made : ℕ) (base value : Option (List ℕ)) (decision : Decision) → base ≡ value_of log durable key → MakesTo log durable newest made key decision value
      → unwrap_or (told decision) base ≡ value
  makes-value durable newest made base value None is makes = is ∙ sym makes.1
  makes-value durable newest made base value (Some found) is makes = sym makes.2
