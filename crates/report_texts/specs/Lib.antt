pub mod Climbs
pub mod ReportViews
pub mod Instances
pub mod Rows
