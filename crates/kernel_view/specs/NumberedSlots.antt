pub use Rattle.expr_eval.specs.NumberedSlots.Numbered as Numbered
