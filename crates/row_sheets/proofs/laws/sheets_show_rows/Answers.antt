use Rattle.row_sheets.proofs.Sheets.{sheet_starts, sound_is_apart, sheet_finds, sheet_settles}
use Rattle.row_sheets.proofs.laws.sheets_show_rows.Goals as goal

pub returns-clause-start : goal.returns-clause-start
returns-clause-start c = sheet_starts

pub returns-clause-apart : goal.returns-clause-apart
returns-clause-apart c = sound_is_apart

pub returns-clause-finds : goal.returns-clause-finds
returns-clause-finds c = sheet_finds

pub returns-clause-settles : goal.returns-clause-settles
returns-clause-settles c = sheet_settles
