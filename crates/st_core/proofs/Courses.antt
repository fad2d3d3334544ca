-- What an event does to the job in flight, and to what is durable.
use Rattle.std.proofs.Common.{◌≡◌, ◌∙◌, ◌++◌, ℕ, Bool, List, [], ◌∷◌, Option, Some, None, option_and_then, refl, sym, ap}
use Rattle.std.specs.Option.{option_map, option_map_or}
use Rattle.st_course.specs.Course.{Course, behind, course_of, job_after, made_after}
use Rattle.st_course.specs.declared.job.CommitJob.{CommitJob}
use Rattle.st_fold.specs.declared.report.Event.{Event}
use Rattle.st_fold.specs.declared.report.Event.TheVariants.{Applied, Began, Durable}
use Rattle.st_model.specs.State.{Given, Opening, State, step}
use Rattle.st_model.specs.Trace.{state_after}
use Rattle.st_ops.specs.declared.op.Op.{Op}

-- the laws of a course
abbrev pub HasCourse : Type 0
HasCourse = (given : Given) (opening : Opening) (fresh : Bool) (trace : List Event) (state : State)
    → state_after given opening trace ≡ Some state
    → option_map (λ course. course.state) (course_of given opening fresh trace) ≡ Some state

abbrev pub CourseGoesOn : Type 0
CourseGoesOn = (given : Given) (opening : Opening) (fresh : Bool) (trace : List Event) (state next : State) (event : Event) (course : Course)
    → state_after given opening trace ≡ Some state → course_of given opening fresh trace ≡ Some course → step given state event ≡ Some next
    → course_of given opening fresh (trace ++ event ∷ []) ≡ Some (behind given course event next)

module _ (has : HasCourse) (goes_on : CourseGoesOn) (given : Given) (opening : Opening) (fresh : Bool) (trace : List Event) (state : State)
    (legal : state_after given opening trace ≡ Some state) where
  pub record Following (event : Event) (next : State) : Type 0 where
    pub course : Course
    pub before : course_of given opening fresh trace ≡ Some course
    pub after : course_of given opening fresh (trace ++ event ∷ []) ≡ Some (behind given course event next)

  pub following : (event : Event) (next : State) → step given state event ≡ Some next → Following event next
  following event next stepped = of (course_of given opening fresh trace) refl
    where
      of : (o : Option Course) → course_of given opening fresh trace ≡ o → Following event next
      of None is = absurd (cc (sym (ap (option_map (λ (course : Course). course.state)) is) ∙ has given opening fresh trace state legal))
      of (Some course) is = record { course = course; before = is; after = goes_on given opening fresh trace state next event course legal is stepped }

  abbrev job_in : Option Course → Option CommitJob
  job_in o = option_and_then (λ course. course.job) o

  abbrev made_in : Option Course → List Op
  made_in o = option_map_or (λ course. course.made) o []

  -- a batch leaves both
  pub job-applied : (version : ℕ) (next : State) → step given state (Applied version) ≡ Some next
      → job_after given opening fresh (trace ++ Applied version ∷ []) ≡ job_after given opening fresh trace
  job-applied version next stepped = let f = following (Applied version) next stepped in ap job_in f.after ∙ sym (ap job_in f.before)

  pub made-applied : (version : ℕ) (next : State) → step given state (Applied version) ≡ Some next
      → made_after given opening fresh (trace ++ Applied version ∷ []) ≡ made_after given opening fresh trace
  made-applied version next stepped = let f = following (Applied version) next stepped in ap made_in f.after ∙ sym (ap made_in f.before)

  -- a commit that begins leaves what is durable
  pub made-began : (version : ℕ) (next : State) → step given state (Began version) ≡ Some next
      → made_after given opening fresh (trace ++ Began version ∷ []) ≡ made_after given opening fresh trace
  made-began version next stepped = let f = following (Began version) next stepped in ap made_in f.after ∙ sym (ap made_in f.before)

  -- its end leaves no job, and makes the job's operations durable
  pub job-durable : (version : ℕ) (next : State) → step given state (Durable version) ≡ Some next
      → job_after given opening fresh (trace ++ Durable version ∷ []) ≡ None
  job-durable version next stepped = let f = following (Durable version) next stepped in ap job_in f.after

  pub made-durable : (version : ℕ) (next : State) (job : CommitJob) → step given state (Durable version) ≡ Some next
      → job_after given opening fresh trace ≡ Some job
      → made_after given opening fresh (trace ++ Durable version ∷ []) ≡ made_after given opening fresh trace ++ job.ops
  made-durable version next job stepped in_flight =
      let f = following (Durable version) next stepped in
      ap made_in f.after
      ∙ ap (λ (o : Option CommitJob). f.course.made ++ option_map_or (λ (j : CommitJob). j.ops) o []) (sym (ap job_in f.before) ∙ in_flight)
      ∙ ap (λ (made : List Op). made ++ job.ops) (sym (ap made_in f.before))
