use Rattle.std.proofs.Common.{◌≡◌, take}
use Rattle.std.specs.Option.{option_map}
use Rattle.st_versioned.specs.Window.{last_to}
use Rattle.st_versioned.proofs.window.Window.last_to.Given as goal

-- the last of the roots so far
abbrev pub invariant-loop-kept : goal.invariant-loop-kept
invariant-loop-kept l = option_map (λ k. k.now) l.last ≡ last_to l.version (take l.kept-index l.kept-items)
