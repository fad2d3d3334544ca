-- A state that is stored is read.
use Rattle.std.proofs.Common.{◌≡◌, ◌∙◌, ℕ, Bool, false, List, [], ◌∷◌, Some, Ok, Err, if◌then◌else◌, refl, ap, option_and_then}
use Rattle.std.proofs.lemmas.Bool.{or_from, or_parts}
use Rattle.std.proofs.lemmas.Cmp.{nat_list_cmp_total}
use Rattle.std.specs.Cmp.Lexicographic.{slice_cmp}
use Rattle.std.specs.FinMap.Entries as entries
use Rattle.std.specs.FinMap.Entries.{find-put, put}
use Rattle.std.specs.List.{list_any}
use Rattle.std.specs.Ordering.{nat_cmp}
use Rattle.std.specs.declared.cmp.Ordering.{Ordering}
use Rattle.std.specs.declared.cmp.Ordering.TheVariants.{Less, Equal, Greater}
use Rattle.st_num.specs.Number.{little_bytes}
use Rattle.std.specs.Option.{option_map_or}
use Rattle.st_key.specs.Spans.{Span}
use Rattle.st_key.specs.declared.part.MetaPart.TheVariants.{Version, Assigned, Available, Other}
use Rattle.st_meta.specs.Reading.{meta_of, number_of, ranges_in, ranges_of, version_in, whole_of}
use Rattle.st_meta.specs.Stored.{IsState, Pairs, Stores, StoresRanges, assigned_key, available_key, is_other, ranges_bytes, version_key, with_stored}
use Rattle.st_meta.specs.declared.state.Meta.{Meta}
use Rattle.st_meta.proofs.Values.{Put, number-again, ranges-again}

module _ (put : Put) (pairs : Pairs) where
  ranges-there : (key : List ℕ) (spans : List Span) → StoresRanges pairs key spans → ranges_in pairs key ≡ Some spans
  ranges-there key spans stores = ap (option_and_then ranges_of) stores.there ∙ ranges-again put stores.value spans stores.spells

  pub stored-read : (meta : Meta) → Stores pairs meta → meta_of pairs ≡ Ok meta
  stored-read meta stores =
      let version : version_in pairs ≡ Some meta.version = ap (option_and_then number_of) stores.version ∙ number-again put meta.version stores.small in
      let assigned = ranges-there assigned_key meta.assigned stores.assigned in
      let available = ranges-there available_key meta.available stores.available in
      (λ i. option_map_or
      (λ v. option_map_or (λ a. option_map_or (whole_of pairs v a) (ranges_in pairs available_key) (Err Available)) (ranges_in pairs assigned_key) (Err Assigned))
      (version i) (Err Version))
      ∙ (λ i. option_map_or (λ a. option_map_or (whole_of pairs meta.version a) (ranges_in pairs available_key) (Err Available)) (assigned i) (Err Assigned))
      ∙ (λ i. option_map_or (whole_of pairs meta.version meta.assigned) (available i) (Err Available))
      ∙ ap (λ (b : Bool). if b then (if list_any (λ pair. is_other pair.0) pairs then Err Other else Ok meta) else Err Available) stores.inside
      ∙ ap (λ (b : Bool). if b then Err Other else Ok meta) stores.alone

-- a pair of no other key brings none in
alone-put : (key value : List ℕ) (pairs : Pairs) → is_other key ≡ false → list_any (λ pair. is_other pair.0) pairs ≡ false
    → list_any (λ pair. is_other pair.0) (put (slice_cmp nat_cmp) key value pairs) ≡ false
alone-put key value [] own alone = or_from (is_other key) false own refl
alone-put key value (e ∷ pairs) own alone = by_order (slice_cmp nat_cmp key e.0) (alone-put key value pairs own parts.1)
  where
    parts : (is_other e.0 ≡ false) × (list_any (λ pair. is_other pair.0) pairs ≡ false)
    parts = or_parts (is_other e.0) (list_any (λ pair. is_other pair.0) pairs) alone

    by_order : (o : Ordering) → list_any (λ pair. is_other pair.0) (put (slice_cmp nat_cmp) key value pairs) ≡ false
        → list_any (λ pair. is_other pair.0) (entries.by_order o ((key, value) ∷ e ∷ pairs) ((e.0, value) ∷ pairs) (e ∷ put (slice_cmp nat_cmp) key value pairs)) ≡ false
    by_order Less later = or_from (is_other key) (list_any (λ pair. is_other pair.0) (e ∷ pairs)) own alone
    by_order Equal later = or_from (is_other e.0) (list_any (λ pair. is_other pair.0) pairs) parts.0 parts.1
    by_order Greater later = or_from (is_other e.0) (list_any (λ pair. is_other pair.0) (put (slice_cmp nat_cmp) key value pairs)) parts.0 later

pub written-stored : (pairs : Pairs) (meta : Meta) → IsState meta → list_any (λ pair. is_other pair.0) pairs ≡ false → Stores (with_stored meta pairs) meta
written-stored pairs meta state alone =
    let assigned = ranges_bytes meta.assigned in
    let available = ranges_bytes meta.available in
    let one : Pairs = put (slice_cmp nat_cmp) assigned_key assigned pairs in
    let two : Pairs = put (slice_cmp nat_cmp) available_key available one in
    record {
      version = find-put (slice_cmp nat_cmp) nat_list_cmp_total version_key version_key (little_bytes 8 meta.version) two;
      small = state.small;
      assigned = record {
        value = assigned;
        there =
            find-put (slice_cmp nat_cmp) nat_list_cmp_total assigned_key version_key (little_bytes 8 meta.version) two
            ∙ find-put (slice_cmp nat_cmp) nat_list_cmp_total assigned_key available_key available one
            ∙ find-put (slice_cmp nat_cmp) nat_list_cmp_total assigned_key assigned_key assigned pairs;
        spells = state.assigned;
      };
      available = record {
        value = available;
        there =
            find-put (slice_cmp nat_cmp) nat_list_cmp_total available_key version_key (little_bytes 8 meta.version) two
            ∙ find-put (slice_cmp nat_cmp) nat_list_cmp_total available_key available_key available one;
        spells = state.available;
      };
      inside = state.inside;
      alone = alone-put version_key (little_bytes 8 meta.version) two refl (alone-put available_key available one refl (alone-put assigned_key assigned pairs refl alone));
    }
