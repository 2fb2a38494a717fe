-- What a value of `Course` keeps. Assumes nothing.
use Rattle.course.specs.declared.course.Course.{Course}
use Rattle.course.specs.Gates.{IsCourse}
use Rattle.course.specs.View.{gates_of}

pub is_course : (k : Course) → IsCourse (gates_of k)
is_course k = k.course
