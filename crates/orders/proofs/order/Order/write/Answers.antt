use Rattle.std.proofs.Common.{sym, ◌∙◌}
use Rattle.orders.proofs.Fitting.{encode_low, fit_from}
use Rattle.orders.proofs.order.Order.write.Goals as goal

pub returns-in-2 : goal.returns-in-2
returns-in-2 c = record { after = c.copy_from_slice.ensures.after ∙ encode_low c.args.self.now 2 _ _ (fit_from _ c.requires.fitting) (sym c.in-2.is ∙ c.requires.whole) c.as_number.ensures.value c.to_be_bytes-bytes.ensures }

pub returns-in-6 : goal.returns-in-6
returns-in-6 c = record { after = c.copy_from_slice-in-6.ensures.after ∙ encode_low c.args.self.now 6 _ _ (fit_from _ c.requires.fitting) (sym c.in-6.is ∙ c.requires.whole) c.as_number.ensures.value c.to_be_bytes-bytes.ensures }

pub returns-in_default : goal.returns-in_default
returns-in_default c = record { after = c.copy_from_slice-in_default.ensures.after ∙ encode_low c.args.self.now _ _ _ (fit_from _ c.requires.fitting) c.requires.whole c.as_number.ensures.value c.to_be_bytes-bytes.ensures }
