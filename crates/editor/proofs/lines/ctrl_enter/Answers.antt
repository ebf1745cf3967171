-- `editor::lines::ctrl_enter` meets its contract.
use Rattle.std.proofs.Common.{rules}
use Rattle.editor.proofs.LinesLaws.{ctrl_last, ctrl_held, ctrl_done}
use Rattle.editor.proofs.lines.ctrl_enter.Goals as goal
use Rattle.editor.proofs.lines.ctrl_enter.Goals.{then-r-editable_rows-via-then-r-editable_rows, then-r-editable_rows-via-else-r-editable_rows+then-too_long}

pub returns-then-r-editable_rows : goal.returns-then-r-editable_rows
returns-then-r-editable_rows c =
    elim c.then-r-editable_rows.branch [
      | then-r-editable_rows-via-then-r-editable_rows w ↦ search (rules, ctrl_last)
      | then-r-editable_rows-via-else-r-editable_rows+then-too_long w ↦ search (rules, ctrl_held)
    ]

pub returns : goal.returns
returns c = search (rules, ctrl_done)
