-- To believe: the border between regions 2 and 3, passed on from printed_lines/specs/Border: who names the code's crate has its definitions too.
pub use Rattle.printed_lines.specs.Border.{n1, n2, n3, n4, n5}
unfoldable pub use Rattle.printed_lines.specs.Border.{B23_T2p, B23_p2T, B23_T2p_rule, B23_p2T_rule, beside_border, region3_box}
