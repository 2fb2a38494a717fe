use Rattle.std.proofs.Common.{◌∙◌, rules}
use Rattle.std.proofs.lemmas.Iterator.{YieldsList-from_slice}
use Rattle.orders.proofs.Rooms.{room_tried}
use Rattle.orders.proofs.write.have_room.Goals as goal

pub returns : goal.returns
returns c = record { value = c.is_some.ensures ∙ room_tried (λ b x v q k. search rules) (YieldsList-from_slice c.args.orders.now cc) _ c.args.room c.try_fold.result c.try_fold.ensures.ran }
