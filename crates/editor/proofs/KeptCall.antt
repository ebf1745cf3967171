-- A call whose arguments are in range keeps a valid screen valid.
-- Assumes nothing.
use Prim.Native.Nat.{ℕ, ◌≤◌}
use mathlib.Core.Path.{◌≡◌, refl}
use mathlib.Core.Bool.{true, false, ◌&&◌}
use mathlib.Core.List.{List, [], ◌∷◌}
use native.Mathlib.Omega.{arith}
use borrow.Author.Tests.{leb-true}
use Rattle.grid.specs.Screen.{Screen}
use Rattle.values.specs.Cursor.{at}
use Rattle.values.specs.Attr.{attr_of}
use Rattle.grid.specs.Facts.{ScreenFacts}
use Rattle.values.proofs.CursorLaws.{left_inside, right_inside, up_inside, down_inside}
use Rattle.octets.proofs.WidthLaws.{width_cases}
use Rattle.editor.specs.Call.{Call, Printed, limited_ok, rule, in_range, apply, own, last_cr, cr_left, cr_after, after_call}
use Rattle.editor.specs.Call.Printed.{NoPrint, Took}
use Rattle.editor.specs.Call.Call.{PrintBytes, PrintChecked, PrintWaiting, TypeChar, TypeLimited, Backspace, DeleteChar, EraseToEnd, EscapeLine, Tab, CtrlEnter, TakeLogicalLine, BreakLine, MoveLeft, MoveRight, MoveUp, MoveDown, Home, WordLeft, WordRight, EndOfLine, Clear, SetWidth, SetCursor, SetInsert, SetAttr, SetKeysOn}
use Rattle.line.specs.Line.{MAX-LOGICAL}
use Rattle.editor.specs.Waiting.{taken}
use Rattle.editor.specs.Modes.{set_width, set_keys_on}
use Rattle.line.proofs.Kept.{Kept}
use Rattle.editor.proofs.KeptPrint.{printed}
use Rattle.editor.proofs.KeptTyping.{type_char_kept, type_limited_kept, delete_char_kept, back_space, erase_to_end_kept, escape_line_kept, tabbed, ctrl_enter_kept, take_line, break_line_kept}
use Rattle.editor.proofs.KeptMotion.{KeptModes, valid_modes, here, moved, homed, clamped, word_left_kept, word_right_kept, end_of_line_kept, cleared, width_set, keys_set}
use Rattle.octets.specs.Refusals.{all_pass}
use Rattle.octets.proofs.Bools.{and_left, and_right, either}
use Rattle.grid.proofs.Validity.{with_cr_facts}
use lib.Dec.{leb, eqb}
use Rattle.octets.specs.Width.{widthb}

-- a limit in range is at most that of every line
pub limit_most : (ch limit : ℕ) → limited_ok ch limit ≡ true → limit ≤ MAX-LOGICAL
unfolding limited_ok
limit_most ch limit r = leb-true limit MAX-LOGICAL (and_right (leb 1 limit) _ (and_left (leb 1 limit && leb limit MAX-LOGICAL) (leb ch 255) r))

module _ {P : Screen → Type 0} (m : KeptModes P) where
  k : Kept P
  k = m.kept

  -- what is kept by all, and by the two calls that change more, every call keeps
  pub apply_kept : (c : Call) (s : Screen) → in_range c s ≡ true → P s → ((w : ℕ) → c ≡ SetWidth w → P (set_width w s))
      → ((v : ℕ) → c ≡ SetKeysOn v → P (set_keys_on v s)) → P (apply c s)
  unfolding apply in_range own rule all_pass
  apply_kept (PrintBytes bs) s r p wide keys = printed k bs false s p
  apply_kept (PrintChecked bs) s r p wide keys = printed k bs false s p
  apply_kept (PrintWaiting bs rows) s r p wide keys = printed k (taken s rows bs) false s p
  apply_kept (TypeChar ch) s r p wide keys = type_char_kept k s ch p
  apply_kept (TypeLimited ch limit) s r p wide keys = type_limited_kept k limit s ch (limit_most ch limit (and_left _ true r)) p
  apply_kept Backspace s r p wide keys = back_space k s p
  apply_kept DeleteChar s r p wide keys = delete_char_kept k s p
  apply_kept EraseToEnd s r p wide keys = erase_to_end_kept k s p
  apply_kept EscapeLine s r p wide keys = escape_line_kept k s p
  apply_kept Tab s r p wide keys = tabbed k s p
  apply_kept CtrlEnter s r p wide keys = ctrl_enter_kept k s p
  apply_kept (TakeLogicalLine out) s r p wide keys = take_line k s p
  apply_kept BreakLine s r p wide keys = break_line_kept k s p
  apply_kept MoveLeft s r p wide keys = moved k s p _ (left_inside _ _ _ (here k s p))
  apply_kept MoveRight s r p wide keys = moved k s p _ (right_inside _ _ _ (here k s p))
  apply_kept MoveUp s r p wide keys = moved k s p _ (up_inside _ _ _ (here k s p))
  apply_kept MoveDown s r p wide keys = moved k s p _ (down_inside _ _ _ (here k s p))
  apply_kept Home s r p wide keys = homed k s p
  apply_kept WordLeft s r p wide keys = word_left_kept k s p
  apply_kept WordRight s r p wide keys = word_right_kept k s p
  apply_kept EndOfLine s r p wide keys = end_of_line_kept k s p
  apply_kept Clear s r p wide keys = cleared k s p
  apply_kept (SetWidth w) s r p wide keys = wide w refl
  apply_kept (SetCursor y x) s r p wide keys = clamped k s p (at y x)
  apply_kept (SetInsert v) s r p wide keys = m.insert s v p (leb-true v 1 (and_left (leb v 1) true r))
  apply_kept (SetAttr a) s r p wide keys = let h = leb-true a 255 (and_left (leb a 255) true r) in m.attr s (attr_of a) p (unfold attr_of in omega arith) (unfold attr_of in omega arith)
  apply_kept (SetKeysOn v) s r p wide keys = keys v refl

pub apply_facts : (c : Call) (s : Screen) → in_range c s ≡ true → ScreenFacts s → ScreenFacts (apply c s)
unfolding in_range own rule all_pass
apply_facts c s r f =
    apply_kept valid_modes c s r f (λ w e. width_set s f w (width_cases w (and_left (widthb w) true (rw e at r)))) (λ v e. keys_set s f v (leb-true v 1 (and_left (leb v 1) true (rw e at r))))

-- ---- and so does the bit that it leaves

last_switch : (bs : List ℕ) (cr : ℕ) → cr ≤ 1 → last_cr cr bs ≤ 1
unfolding last_cr
last_switch [] cr h = h
last_switch (b ∷ bs) cr h = last_switch bs _ (either (λ (v : ℕ). v ≤ 1) (eqb b 13) _ _ (omega arith) (omega arith))

left_switch : (p : Printed) (cr : ℕ) → cr ≤ 1 → cr_left p cr ≤ 1
unfolding cr_left
left_switch NoPrint cr h = omega arith
left_switch (Took bs) cr h = last_switch bs _ (omega arith)

pub after_facts : (c : Call) (s : Screen) → in_range c s ≡ true → ScreenFacts s → ScreenFacts (after_call c s)
unfolding after_call cr_after
after_facts c s r f =
    let g = apply_facts c s r f in
    record { head = with_cr_facts (apply c s).head _ g.head (left_switch ((rule c).printed s) s.head.cr f.head.cr); rows = g.rows }
