-- Lives that a schedule makes, by how many steps of it.
use Rattle.std.proofs.Common.{◌≡◌, ℕ, None, refl}
use Rattle.st_fold.specs.declared.report.Ending.TheVariants as ending
use Rattle.st_fold.specs.declared.report.Life.{Life}
use Rattle.st_model.specs.Schedule.{BreaksOff, Plays, Stage, begin, ending_by, life_of, next, walk}

-- the life that stands after some steps, none of which is left
abbrev pub plays : {E : Type 0} (stage : Stage E) (steps : ℕ) {life : Life}
    → next stage (walk stage steps (begin stage)) ≡ None
    → life ≡ life_of stage (walk stage steps (begin stage)) (ending_by stage.plan (walk stage steps (begin stage)).halt)
    → Plays stage life
plays stage steps over made = (walk stage steps (begin stage), (steps, refl), over, made)

-- the life that a fault ends after some steps
abbrev pub breaks_off : {E : Type 0} (stage : Stage E) (steps : ℕ) {life : Life}
    → (walk stage steps (begin stage)).halt ≡ None
    → life ≡ life_of stage (walk stage steps (begin stage)) ending.Faulted
    → BreaksOff stage life
breaks_off stage steps going made = (walk stage steps (begin stage), (steps, refl), going, made)
