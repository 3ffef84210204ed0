-- Where `blocks_compute` is unfolded, every definition of names and blocks computes: for tables and examples.
use Rattle.names.proofs.Computing.{names_compute}
use Rattle.blocks.specs.Block.{block_kind, name_length, content_length, block_name, block_content, lengths_right, unused_zero, weighted, sum_right, layout_right, kind_suits, record_right, shape_right, sound}
use Rattle.blocks.specs.Content.{is_hex, skip_spaces, line, read_target, begins_hex, read_id, read}
use Rattle.blocks.specs.Entry.{entry_of, entry, first_blocks, blocks, entries}
use Rattle.blocks.specs.Fitness.{flaw_from, first_flaw}
use Rattle.blocks.specs.Snapshot.{store, sizes_within, size_check, store_flaw}
use Rattle.blocks.specs.Means.{padded}
use Rattle.blocks.proofs.Make.{seal}

unfoldable pub blocks_compute : Unit {0}
unfolding names_compute block_kind name_length content_length block_name block_content lengths_right unused_zero weighted sum_right layout_right kind_suits record_right shape_right sound
    is_hex skip_spaces line read_target begins_hex read_id read entry_of entry first_blocks blocks entries flaw_from first_flaw store sizes_within size_check store_flaw seal padded
blocks_compute = tt
