pub mod OpenSheets
