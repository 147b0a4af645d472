use Rattle.order_laws.proofs.ToLastWriters.{readings, are_readings, shown_rightly}
use Rattle.order_laws.proofs.legal.legal_orders_show_last_writers.Goals as goal

pub returns : goal.returns
returns c h order d l = (readings h order d l, are_readings h order d l, shown_rightly h order d l)
