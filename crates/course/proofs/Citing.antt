-- The lemmas that the proofs of the edits cite. Assumes nothing.
use Rattle.course.proofs.Adding.{inserted, one_more}
use Rattle.course.proofs.Causes.{add_smallest, remove_smallest, relocate_smallest}
use Rattle.course.proofs.Refusing.{add_rightly, remove_rightly, relocate_rightly}
use Rattle.course.proofs.Relocating.{may_come}
use Rattle.course.proofs.Removing.{set_is, one_less, leaves_course, leaves_others}

pub ruleset adding = (add_smallest, add_rightly)

pub ruleset removing = (remove_smallest, remove_rightly, set_is, one_less, leaves_course, leaves_others)

pub ruleset relocating = (relocate_smallest, relocate_rightly, may_come)

pub ruleset inserting = (inserted, one_more)
