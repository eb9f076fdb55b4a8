pub mod FromTable
