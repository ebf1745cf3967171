-- "A plan of source rows": which row each row of a spliced screen is made of. `Plan` is the struct of `src/plan.rt`.
-- Assumes nothing.
use Rattle.std.specs.Prelude.{if◌then◌else◌, ℕ, ◌+◌, ◌-◌, ◌≤◌, ◌<◌, ◌≡◌, List, ◌++◌, ◌⊎◌, drop, ltb, eqb}
use Rattle.grid.specs.Screen.{Row, row_at}
use Rattle.octets.specs.Table.{tabulate}
use Rattle.line.specs.Splice.{rows_for}
use Rattle.line.specs.declared.plan.Plan.{Plan}

-- k rows are what n characters with the cursor at i take
pub record Count (w n i k : ℕ) : Type 0 where
  pub is : k ≡ rows_for w n i
  pub low : 1 ≤ k
  pub high : k ≤ 8

-- ---- the plan

-- a line of k rows in the place of the rows from b to d, of e
unfoldable pub plan_of : ℕ → ℕ → ℕ → ℕ → Plan
plan_of b d k e = record { top = b - (b + k - e); over = b + k - e; lines = k; next = d + 1; rows = e }

-- a plan keeps to the screen
pub record Laid (p : Plan) : Type 0 where
  pub rows_most : p.rows ≤ 25
  pub whole : p.top + p.lines ≤ p.rows
  pub over_to : p.top + p.over < 25
  pub next_to : p.next ≤ 25

-- from row n on the plan changes nothing: it ends there, or the line ends there and the rows behind it stay where they are
pub record ChangedTo (p : Plan) (n : ℕ) : Type 0 where
  pub most : n ≤ p.rows
  pub rest : (n ≡ p.rows) ⊎ ((n ≡ p.top + p.lines) × (p.next ≡ n))

-- the flag of the line's row that stands at r, where its rows end before `below`
unfoldable pub line_flag : ℕ → ℕ → ℕ
line_flag r below = if eqb (r + 1) below then 0 else 1

-- row r by the plan, where the line's rows are `new`
unfoldable pub planned_row : List Row → List Row → Row → Plan → ℕ → Row
planned_row rows new blank p r =
    if ltb r p.top then row_at rows (r + p.over)
    else if ltb r (p.top + p.lines) then row_at new (r - p.top)
    else if ltb (p.next + (r - (p.top + p.lines))) p.rows then row_at rows (p.next + (r - (p.top + p.lines)))
    else blank

-- the rows by the plan, and those behind it as they were
unfoldable pub planned_rows : List Row → List Row → Row → Plan → List Row
planned_rows rows new blank p = tabulate (planned_row rows new blank p) p.rows ++ drop p.rows rows
