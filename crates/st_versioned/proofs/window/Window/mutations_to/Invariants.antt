use Rattle.std.proofs.Common.{◌≡◌, filter, nat_le, take}
use Rattle.st_versioned.proofs.window.Window.mutations_to.Given as goal

-- those of the mutations so far
abbrev pub invariant-loop-made : goal.invariant-loop-made
invariant-loop-made l = l.mutations.items ≡ filter (λ made. nat_le made.0 l.version) (take l.made-index l.made-items)
