-- How mutations go to the version in the making.
use Rattle.std.specs.Prelude.{List, [], fold, Option, Some, None, if◌then◌else◌}
use Rattle.std.specs.Option.{option_map_or}
use Rattle.st_course.specs.Sent.{is_sent, stored_as}
use Rattle.st_model.specs.Pieces.{span_of}
use Rattle.st_model.specs.declared.piece.Piece.{Piece}
use Rattle.st_mutation.specs.Clip.{clipped}
use Rattle.st_mutation.specs.declared.batch.Mutation.{Mutation}
use Rattle.st_mutation.specs.declared.batch.Mutation.TheVariants.{Set, Clear, Atomic}
use Rattle.st_versioned.specs.Root.{Pairs, Row, over}
use Rattle.st_versioned.specs.Window.{Versions, with_change, with_mutation}
use Rattle.st_versioned.specs.declared.change.Change.TheVariants as change

-- the window in which it is stored
abbrev pub with_stored : Option Mutation → Versions → Versions
with_stored None window = window
with_stored (Some (Set key value)) window = with_change (change.Set key value) (with_mutation (Set key value) window)
with_stored (Some (Clear span)) window = with_change (change.Clear span) (with_mutation (Clear span) window)
with_stored (Some (Atomic op key operand)) window = window

-- the root of the version in the making
abbrev pub making_root : Versions → List Row
making_root window = option_map_or (λ kept. kept.root) window.making []

-- the window behind a mutation
abbrev pub stored_in : Pairs → Versions → Mutation → Versions
stored_in base window mutation = with_stored (stored_as mutation (over (making_root window) base)) window

-- the window behind the part of a mutation in a piece, and behind those in all of them
abbrev pub stored_part : Pairs → Mutation → Versions → Piece → Versions
stored_part base mutation window piece =
    if is_sent piece.phase then option_map_or (stored_in base window) (clipped mutation (span_of piece)) window else window

abbrev pub stored_parts : Pairs → List Piece → Versions → Mutation → Versions
stored_parts base pieces window mutation = fold (stored_part base mutation) window pieces

-- the window behind several mutations, in their order
abbrev pub all_stored : Pairs → List Piece → Versions → List Mutation → Versions
all_stored base pieces window mutations = fold (stored_parts base pieces) window mutations
