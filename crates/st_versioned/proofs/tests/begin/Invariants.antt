use Rattle.std.proofs.Common.{◌≡◌, Some}
use Rattle.std.specs.Option.{option_map}
use Rattle.st_versioned.proofs.tests.begin.Given as goal

-- the version is still in the making
abbrev pub invariant-loop-write : goal.invariant-loop-write
invariant-loop-write l = (l.window.newest ≡ l.fn.window.newest) × (option_map (λ kept. kept.version) l.window.making ≡ Some l.version)
