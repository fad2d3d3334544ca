-- A window with a version in the making.
use Rattle.std.specs.Prelude.{◌≡◌, IsSome}
use Rattle.st_versioned.specs.Window.{Stands, Versions, abandoned}

-- a version is in the making
pub record IsGoing (window : Versions) : Type 0 where
  pub making : IsSome window.making
  pub stands : Stands window

-- it still is, and giving it up leads to the same window
pub record GoesOn (before after : Versions) : Type 0 where
  pub going : IsGoing after
  pub undone : abandoned after ≡ abandoned before
