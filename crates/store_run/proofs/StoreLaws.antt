-- What a shelf shows.
use Rattle.std.proofs.Common.{◌≡◌}
use Rattle.outside.specs.Views.{ShelfView}

-- two that agree in all are one
pub same_view : (a b : ShelfView) → a.held ≡ b.held → a.gave ≡ b.gave → a.wrote ≡ b.wrote → a.erased ≡ b.erased → a.reads ≡ b.reads → a.faults ≡ b.faults → a ≡ b
same_view a b held gave wrote erased reads faults =
    λ i. record { held = held i; gave = gave i; wrote = wrote i; erased = erased i; reads = reads i; faults = faults i }
