use Rattle.st_course.proofs.Events.{course-flown, course-more, course-state}
use Rattle.st_course.proofs.laws.course_goes_on.Goals as goal

pub returns-clause-state : goal.returns-clause-state
returns-clause-state c = course-state

pub returns-clause-behind : goal.returns-clause-behind
returns-clause-behind c = course-more

pub returns-clause-flown : goal.returns-clause-flown
returns-clause-flown c = course-flown
