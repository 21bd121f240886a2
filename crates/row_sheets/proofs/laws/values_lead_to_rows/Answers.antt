use Rattle.row_sheets.proofs.Finding.{found_by_value}
use Rattle.row_sheets.proofs.laws.values_lead_to_rows.Goals as goal

pub returns : goal.returns
returns c = found_by_value
