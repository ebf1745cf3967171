-- The documents' examples, computed.
-- Assumes nothing.
use mathlib.Core.Path.{◌≡◌, refl}
use mathlib.Core.Bool.{true}
use lib.Count.{ones, ones_in}
use Rattle.values.specs.Attr.{attr_of, byte_of}
use Rattle.grid.specs.Screen.{valid_attr, valid_head, valid_row, valid_screen, with_rows, move_to, put_cell, flag_row, set_flag, scrolled, no_row, row_at, editable, blank_row, line_row, spaced, padded, new_head, new_screen, new_state, trim, trim_by, is_space, is_empty, printable, same, same_row, differing, number, touched_rows}
use Rattle.octets.specs.Test.{every, zerob}
use Rattle.octets.specs.Part.{window}
use Rattle.octets.specs.Table.{tabulate}
use Rattle.octets.specs.Refusals.{first_of}
use Rattle.grid.specs.Pair.{pair_at, next_pair}
use Rattle.grid.specs.Record.{row_of, row_from, rows_of, head_at, head_of, bits_byte, pair_of, touched_of, stamp_of, read_state, front_bytes, flag_bytes, blocks, rows_bytes, state_bytes, frontb as recordFrontb, validb}
use Rattle.values.specs.Cursor.{left, clamp}
use Rattle.line.specs.Line.{flagged, span_start, span_end, start_of, end_of, joined, row_text, whole_rows, reading, line_text, index, reach, content}
use Rattle.line.specs.Splice.{rows_for, line_rows, spliced_rows, splice}
use Rattle.editor.specs.Print.{scroll, next_row, row_is_blank, wrapped, newline, write_cell, put_char, print_byte, print}
use Rattle.editor.specs.Typing.{type_char, type_within, type_limited, delete_char, backspace}
use Rattle.editor.specs.Words.{is_word, word_at, place, cell_of, past_word, past_gap, word_right}
use Rattle.editor.specs.Modes.{set_insert}
use Rattle.editor.specs.Waiting.{longest, taken, waited}
use Rattle.editor.specs.Call.{rule, apply, answer, last_cr, cr_left, cr_after, after_call, step}
use Rattle.editor.specs.Lists.{steps}
use Rattle.report.specs.Carried.{bits, carry, merge}
use Rattle.report.specs.Kind.{kind_byte, kind_of, mask_of, mask_fits, rows_at}
use Rattle.report.specs.Report.{front_of, report_of, report_front, row_bytes, report_bytes, reported, read_front, row_in, carried_rows, read_report, frontb, reportb}
use Rattle.mirror.specs.Order.{same_pair, later, latest}
use Rattle.mirror.specs.Mirror.{new_mirror, due_at, due, width_without_rows, shown, noted, applied, mirror_front, mirror_bytes, read_mirror, mirror_frontb, shownb, mirrorb, arrival_tests, arrived, level_of, leaving, arrived_outcome, arrival}
use Rattle.mirror.specs.Count.{is_later, later_of, heard_in, shown_after, counted, is_level, start, tally}
use Rattle.promises.specs.Examples.{cursor, touched, cr, answered, flag, text, cell, both, next, serial, pair, examples, reports, mirrored, counts, holds}

pub checked : every holds examples ≡ true
unfolding examples holds reports mirrored counts cursor touched cr answered flag text cell both next serial pair attr_of byte_of with_rows move_to put_cell flag_row set_flag scrolled no_row row_at editable blank_row line_row spaced padded new_head new_screen new_state trim trim_by is_space is_empty printable every same same_row differing number touched_rows left clamp flagged span_start span_end start_of end_of joined row_text whole_rows reading line_text index reach content rows_for line_rows spliced_rows splice scroll next_row row_is_blank wrapped newline write_cell put_char print_byte print longest taken waited type_char type_within type_limited delete_char backspace is_word word_at place cell_of past_word past_gap word_right set_insert rule apply answer last_cr cr_left cr_after after_call step steps bits carry mask_of front_of report_of new_mirror due_at due merge shown noted applied same_pair later latest is_later later_of heard_in shown_after counted is_level start tally zerob window tabulate first_of valid_attr valid_head valid_row valid_screen row_of row_from rows_of head_at head_of bits_byte pair_at next_pair pair_of touched_of stamp_of read_state front_bytes flag_bytes blocks rows_bytes state_bytes recordFrontb validb kind_byte kind_of mask_fits rows_at report_front row_bytes report_bytes reported read_front row_in carried_rows read_report frontb reportb width_without_rows mirror_front mirror_bytes read_mirror mirror_frontb shownb mirrorb arrival_tests arrived level_of leaving arrived_outcome arrival ones ones_in
checked = refl
