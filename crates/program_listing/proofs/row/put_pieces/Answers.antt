-- `put_pieces` meets its contract.
use Rattle.text_write.proofs.Laws.{same_count, same_into}
use Rattle.program_listing.proofs.Places.{pushed_made}
use Rattle.program_listing.proofs.row.put_pieces.Goals as goal

pub returns : goal.returns
returns g c =
    let e = pushed_made g.T.RowText.pieces g.T.RowText.BETWEEN _ _ _ _ _ c.push_mnemonic.ensures c.row_places.ensures c.push_places.ensures c.row.view_is in
    (same_count _ _ _ _ e _ c.put_bytes.ensures.0, same_into _ _ _ _ e _ c.put_bytes.ensures.1)
