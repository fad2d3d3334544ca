use Rattle.std.proofs.Common.{◌≡◌, false}
use Rattle.std.specs.List.{AllWithin}
use Rattle.std.specs.List.Sorted.{IsPermutation}
use Rattle.std.proofs.lemmas.List.Filters.{FiltersInPlace}
use Rattle.st_watch.specs.declared.entry.Entry.{Entry}
use Rattle.st_watch.specs.Layout.{waits}
use Rattle.st_watch.proofs.entries.wait_first.Given as goal

-- of those so far the ones that wait stand first
abbrev pub invariant-loop-i : goal.invariant-loop-i
invariant-loop-i l = record {
  placed : FiltersInPlace waits l.initial.entries l.entries l.waiting l.i;
  behind : AllWithin (λ (entry : Entry). waits entry ≡ false) l.entries l.waiting l.i;
  moved : IsPermutation l.initial.entries l.entries;
}
