-- What a table in memory means.
use Rattle.filters.specs.Tables.{TableView, table_view}
use Rattle.filters.specs.declared.table.Table.{Table}

abbrev pub view_of : Table → TableView
view_of t = table_view t.settings t.buffer
